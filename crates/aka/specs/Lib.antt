pub mod Aka
pub mod AkaKeeps
pub mod AkaMethod
pub mod Faults
pub mod Replies
