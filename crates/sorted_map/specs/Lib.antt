pub mod Maps
pub mod Lent
