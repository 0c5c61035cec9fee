pub mod PieceProgress
pub mod Events
