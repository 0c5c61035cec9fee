pub mod PieceConcrete
pub mod PieceViews
pub mod PieceDetermined
pub mod PieceTaken
pub mod PieceFronts
pub mod Speculated
