pub mod LockWords
pub mod Versions
pub mod Updates
