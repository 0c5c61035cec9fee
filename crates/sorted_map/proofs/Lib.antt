mod Finding
mod Changing
pub mod Entries
