pub mod Outcomes
pub mod Soundness
pub mod Walks
pub mod Within
pub mod Writes
