pub mod Lines
pub mod Import
