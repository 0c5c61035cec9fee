pub mod Deferred
pub mod Keeping
pub mod Behind
pub mod Following
pub mod Reordering
pub mod Same
