pub mod Limits
pub mod LockWord
pub mod Outcomes
pub mod Process
pub mod Signed
pub mod Updates
pub mod Versions
