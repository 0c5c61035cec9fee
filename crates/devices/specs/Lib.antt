pub mod Counting
pub mod Reading
pub mod Writing
pub mod Reports
pub mod Files
pub mod Failures
