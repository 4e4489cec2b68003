pub mod Method
pub mod Scripted
pub mod ScriptedKeeps
pub mod ScriptedMethod
pub mod Subscribers
