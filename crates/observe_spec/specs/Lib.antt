pub mod Samples
pub mod Observed
pub mod Words
pub mod Status
pub mod Run
pub mod Laws
