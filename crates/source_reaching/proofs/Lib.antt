pub mod Subsets
pub mod Tried
pub mod Successors
pub mod Ahead
pub mod Among
pub mod Following
pub mod Listed
pub mod Arriving
