pub mod Kinds
pub mod Chains
pub mod Steps
pub mod Starts
