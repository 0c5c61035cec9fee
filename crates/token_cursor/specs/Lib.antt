pub mod Ahead
pub mod Taking
pub mod Openers
