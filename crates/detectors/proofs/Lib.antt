pub mod Order
pub mod Children
pub mod Placing
pub mod ScanTables
pub mod Runs
pub mod Greatest
pub mod Finding
pub mod Standing
