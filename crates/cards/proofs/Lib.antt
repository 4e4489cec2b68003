pub mod Xored
