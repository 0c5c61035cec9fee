pub mod ActionText
pub mod Sized
pub mod Reading
pub mod Following
