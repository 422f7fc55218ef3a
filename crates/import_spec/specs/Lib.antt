pub mod Places
pub mod Tails
pub mod Marked
pub mod Events
pub mod Import
pub mod Laws
