pub mod Fine
pub mod Templates
pub mod Parts
pub mod Bodies
pub mod Images
pub mod Memory
