pub mod SeenLaws
pub mod ReadLaws
pub mod JudgeLaws
pub mod ReadingLaws
