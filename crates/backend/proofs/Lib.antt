pub mod Refusing
pub mod PieceMarks
