pub mod Along
pub mod Values
pub mod Told
