pub mod Live
pub mod Reports
pub mod Ticking
