pub mod Attributes
pub mod Faults
pub mod Inside
pub mod Reading
pub mod Requests
