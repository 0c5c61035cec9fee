pub mod Moving
pub mod Free
pub mod Running
