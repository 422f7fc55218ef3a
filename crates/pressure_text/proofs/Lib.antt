pub mod Puts
pub mod Taken
pub mod KnownLaws
