pub mod Sleeping
pub mod Laws
