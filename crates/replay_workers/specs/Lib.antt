pub mod Crew
pub mod Lanes
pub mod Watches
