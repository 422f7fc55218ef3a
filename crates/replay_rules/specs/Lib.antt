pub mod Planned
pub mod Seen
pub mod Judged
pub mod Laws
