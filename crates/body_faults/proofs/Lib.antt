pub mod Gathering
pub mod Rows
