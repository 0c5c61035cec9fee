pub mod Loops
pub mod Skips
pub mod Steps
pub mod Begun
pub mod Units
