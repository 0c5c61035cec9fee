pub mod BucketCount
pub mod Chains
pub mod Lists
pub mod Places
pub mod Sleepers
