pub mod Acts
pub mod Causes
pub mod Listed
pub mod Named
pub mod Stands
