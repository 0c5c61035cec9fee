pub mod Arguments
pub mod Failing
pub mod Patches
pub mod Rows
pub mod Sequences
pub mod Totals
