pub mod Prefixes
pub mod Headers
pub mod InPieces
pub mod Spelled
