pub mod AverageLaws
pub mod ShareLaws
pub mod SignalLaws
pub mod SampleLaws
pub mod WithinLaws
