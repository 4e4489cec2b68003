pub mod Card
pub mod Cases
pub mod Recorded
pub mod TestCards
