pub mod TableLaws
pub mod Weights
