pub mod Fitting
pub mod Steps
pub mod Tests
pub mod Images
pub mod Orders
pub mod Rising
pub mod Collected
