pub mod HeadLaws
pub mod LineLaws
pub mod PlayLaws
pub mod RefusalTexts
pub mod StopLaws
pub mod OrderLaws
