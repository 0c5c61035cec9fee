pub mod Bare
pub mod Laid
pub mod Tidy
