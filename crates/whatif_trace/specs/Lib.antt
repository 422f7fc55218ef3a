pub mod Rest
pub mod Laws
pub mod Left
pub mod Bounded
