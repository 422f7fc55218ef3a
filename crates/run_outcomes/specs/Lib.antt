pub mod Rules
pub mod Writes
