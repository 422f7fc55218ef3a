pub mod Entries
pub mod Journal
pub mod Watch
pub mod Lending
pub mod Board
