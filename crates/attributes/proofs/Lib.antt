pub mod Gathering
pub mod Lies
pub mod Within
