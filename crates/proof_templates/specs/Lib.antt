pub mod Layout
pub mod Asking
pub mod Locking
pub mod Notifying
pub mod Fitting
pub mod Inside
pub mod Templates
