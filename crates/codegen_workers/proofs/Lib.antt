pub mod Places
pub mod Handing
