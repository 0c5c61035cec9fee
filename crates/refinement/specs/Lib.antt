pub mod Outside
pub mod Seen
pub mod Monitors
pub mod Pace
pub mod Refines
pub mod Pieces
pub mod Resting
pub mod Built
