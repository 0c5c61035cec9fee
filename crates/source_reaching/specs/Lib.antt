pub mod Choices
pub mod Covered
pub mod Among
pub mod Followed
pub mod Ends
