pub mod Clap
pub mod Reads
