pub mod Views
pub mod Inner
pub mod Tables
pub mod Stands
