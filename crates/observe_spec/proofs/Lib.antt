pub mod SampleLaws
pub mod RunLaws
