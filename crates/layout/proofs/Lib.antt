pub mod Smallness
pub mod Versions
