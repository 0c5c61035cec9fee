pub mod Cutting
pub mod Mnemonics
pub mod Rows
pub mod Shown
pub mod Lines
pub mod Within
pub mod Encoded
