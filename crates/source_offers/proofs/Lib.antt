pub mod Stores
pub mod Rests
pub mod Frames
pub mod Copied
pub mod Arguments
pub mod Stages
pub mod Said
pub mod Alone
