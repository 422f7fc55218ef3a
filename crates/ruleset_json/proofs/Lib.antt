pub mod Views
pub mod Texts
pub mod Fractions
pub mod Each
pub mod FirstFaults
pub mod Replacing
