pub mod Rounds
pub mod Until
