pub mod Refusals
pub mod Lowered
