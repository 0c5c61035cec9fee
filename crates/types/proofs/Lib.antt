pub mod FirstPlaces
pub mod Numbers
pub mod Compared
pub mod Leasts
pub mod Operators
pub mod Gathered
pub mod InSight
