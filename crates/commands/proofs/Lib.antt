pub mod ReplayLaws
pub mod GeneratedLaws
pub mod LineTexts
pub mod ImportLaws
