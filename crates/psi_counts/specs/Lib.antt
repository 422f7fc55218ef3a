pub mod Counts
pub mod Clock
pub mod Touch
pub mod Legal
