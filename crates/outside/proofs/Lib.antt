pub mod Grows
pub mod Buffered
pub mod Walks
pub mod Suffix
pub mod ReadOrder
