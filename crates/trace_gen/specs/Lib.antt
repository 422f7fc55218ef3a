pub mod Generating
pub mod Left
pub mod Writing
