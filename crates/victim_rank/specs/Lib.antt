pub mod Pasts
pub mod Tables
pub mod Scopes
pub mod Growth
pub mod Walks
pub mod Grown
pub mod Choosing
pub mod Cutoffs
