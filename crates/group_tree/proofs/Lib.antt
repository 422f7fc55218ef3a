pub mod Chains
pub mod Slashes
pub mod Counting
pub mod Changes
pub mod Ordered
pub mod Paths
