pub mod Moves
pub mod Waiters
pub mod Ready
pub mod Found
pub mod Ways
