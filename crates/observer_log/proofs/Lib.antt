pub mod BoardSteps
pub mod CountLaws
pub mod Taken
