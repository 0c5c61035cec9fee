pub mod Refusals
pub mod Named
pub mod Cuts
pub mod Listings
pub mod Within
