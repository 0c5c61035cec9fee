pub mod Accepts
pub mod Compiles
