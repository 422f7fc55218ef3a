pub mod Sent
pub mod Fields
