pub mod OfLog
pub mod Switches
pub mod Failing
pub mod Minimal
pub mod Shrinking
