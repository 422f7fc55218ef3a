pub mod DurationLaws
pub mod Foremost
pub mod ChoiceLaws
pub mod VictimLaws
pub mod KillLaws
