pub mod Idle
pub mod Placed
