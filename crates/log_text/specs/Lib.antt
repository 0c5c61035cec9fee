pub mod LogLines
pub mod Cuts
pub mod Spelled
pub mod Places
