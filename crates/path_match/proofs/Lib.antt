mod Walk
pub mod MatchLaws
pub mod JoinedParts
pub mod PatternLaws
pub mod SpelledLaws
pub mod PathLaws
pub mod Texts
