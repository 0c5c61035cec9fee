pub mod Asked
pub mod Overwriting
pub mod Commands
