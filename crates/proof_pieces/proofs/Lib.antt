pub mod Calls
mod Exits
mod Held
mod Outside
mod Reading
mod Reduces
pub mod Rests
pub mod Runs
mod Sleepers
mod Times
mod Wholly
