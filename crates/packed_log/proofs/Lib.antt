pub mod Fields
pub mod Entries
