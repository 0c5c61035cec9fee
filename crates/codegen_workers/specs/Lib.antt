pub mod Limits
pub mod Shares
pub mod Handles
pub mod Arrivals
