pub mod Never
pub mod Found
pub mod Kept
pub mod Ends
pub mod Living
pub mod Sleeping
