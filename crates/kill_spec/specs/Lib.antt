pub mod Readings
pub mod LegalReadings
pub mod Detectors
pub mod Victims
pub mod Choices
pub mod Kills
pub mod Evaluations
pub mod Laws
