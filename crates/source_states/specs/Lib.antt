pub mod Actions
pub mod States
pub mod Done
pub mod Taken
pub mod Killed
pub mod Internal
pub mod Own
