pub mod Small
pub mod Begins
