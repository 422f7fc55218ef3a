pub mod Sides
pub mod Watch
pub mod Laws
