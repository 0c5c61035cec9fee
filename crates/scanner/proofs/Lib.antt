pub mod GapLaws
pub mod KindLaws
pub mod LexemeLaws
pub mod LineLaws
pub mod Passing
pub mod Readings
pub mod Runs
pub mod Stops
