pub mod KindLaws
pub mod PlaceLaws
pub mod StepLaws
pub mod ReadyLaws
pub mod DepthLaws
pub mod WalkLaws
pub mod TrialLaws
