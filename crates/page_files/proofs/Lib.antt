pub mod Filled
pub mod Pages
pub mod Stops
