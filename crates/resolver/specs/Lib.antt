pub mod Clean
pub mod Sites
