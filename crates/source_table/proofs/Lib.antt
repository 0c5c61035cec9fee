pub mod Tables
pub mod Waiters
pub mod Listing
pub mod Sameness
