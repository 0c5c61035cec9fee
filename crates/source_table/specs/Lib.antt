pub mod Tables
pub mod Decided
