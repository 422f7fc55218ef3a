pub mod Since
pub mod Table
