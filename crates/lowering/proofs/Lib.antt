pub mod CellLaws
pub mod Joins
pub mod LengthLaws
pub mod Spans
pub mod Linking
