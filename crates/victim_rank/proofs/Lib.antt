pub mod Tables
pub mod Places
pub mod Scoped
pub mod Growing
pub mod SizeChoice
pub mod Chosen
pub mod Cutoffs
