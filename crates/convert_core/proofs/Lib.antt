pub mod Wholes
pub mod Names
pub mod Tables
