pub mod Lengths
pub mod Fixed
pub mod Rows
pub mod Marking
pub mod Settling
pub mod Falling
