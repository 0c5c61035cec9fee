pub mod Deferring
pub mod Placed
