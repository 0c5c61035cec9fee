pub mod Contexts
pub mod Calls
pub mod Collected
pub mod Members
pub mod Parts
pub mod Callers
