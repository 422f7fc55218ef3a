pub mod Plan
pub mod Moments
