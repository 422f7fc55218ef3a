pub mod Fields
pub mod Records
pub mod Items
pub mod Lines
