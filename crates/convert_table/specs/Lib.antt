pub mod Table
pub mod Takes
