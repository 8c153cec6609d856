pub mod KindLaws
pub mod OpenLaws
pub mod LeftLaws
pub mod LineLaws
pub mod WalkLaws
