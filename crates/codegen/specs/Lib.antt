pub mod Failures
pub mod Generated
pub mod Halves
pub mod Sites
