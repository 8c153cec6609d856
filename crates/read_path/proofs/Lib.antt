pub mod SideLaws
pub mod StepLaws
pub mod LineLaws
pub mod PathLaws
pub mod BlockLaws
