pub mod LevelLaws
pub mod Chains
pub mod Joined
pub mod Factors
pub mod Callees
