pub mod Growing
pub mod Few
pub mod Found
pub mod Longer
pub mod Counted
