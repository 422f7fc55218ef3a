pub mod StepLaws
pub mod RepresentLaws
pub mod MakeLaws
