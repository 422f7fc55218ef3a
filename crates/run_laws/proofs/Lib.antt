pub mod OneMore
pub mod Following
pub mod ByOrder
pub mod LiveSlots
pub mod LiveTexts
pub mod Pieces
