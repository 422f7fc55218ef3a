pub mod Convert
pub mod Status
pub mod Runs
