pub mod Accepting
pub mod Drawing
pub mod FirstEvents
pub mod Following
pub mod Naming
pub mod Sending
pub mod Stepping
