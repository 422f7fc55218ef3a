pub mod StallLaws
pub mod TaskLaws
pub mod SwitchLaws
pub mod GroupLaws
pub mod GroupChanges
pub mod AccountLaws
pub mod RefusalLaws
pub mod Following
