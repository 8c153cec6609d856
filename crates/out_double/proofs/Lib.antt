pub mod DrawLaws
pub mod ExactLaws
pub mod SignLaws
pub mod CurveLaws
pub mod Examples
