pub mod Blocks
pub mod Joining
pub mod Keys
pub mod Maps
pub mod Lengths
pub mod Rounds
pub mod Tail
pub mod Sums
