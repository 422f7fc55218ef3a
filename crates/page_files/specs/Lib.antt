pub mod Fills
pub mod Puts
