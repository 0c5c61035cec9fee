pub mod Packing
pub mod Views
