pub mod Versions
pub mod Spoken
pub mod Refused
pub mod OneAnswer
pub mod Compiled
pub mod Readings
