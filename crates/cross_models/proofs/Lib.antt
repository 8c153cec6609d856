pub mod ModelLaws
pub mod StepsLaws
pub mod WalkLaws
pub mod SgrLaws
