pub mod Laws
pub mod Silence
pub mod Traces
pub mod Whole
pub mod WholeCalls
