pub mod Choices
pub mod ListChanges
pub mod SameHolders
