pub mod Planned
pub mod RunLaws
pub mod RunStops
pub mod RunOrder
