pub mod Collecting
pub mod Linked
pub mod Failures
