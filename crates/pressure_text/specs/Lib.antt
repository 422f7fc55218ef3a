pub mod Pieces
pub mod FileRead
pub mod PrintedLines
