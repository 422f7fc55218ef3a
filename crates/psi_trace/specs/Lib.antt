pub mod Prefix
pub mod Heads
pub mod Taking
pub mod Writes
