pub mod Operands
pub mod Functions
pub mod Comments
pub mod Texts
