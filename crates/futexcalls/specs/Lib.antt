pub mod FutexCalls
pub mod Answers
pub mod Pieces
pub mod Progress
pub mod PieceResults
