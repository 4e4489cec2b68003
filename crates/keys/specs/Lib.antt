pub mod Kdf
pub mod Keys
pub mod Octets
