pub mod SectionLaws
pub mod LineLaws
pub mod RuleLaws
pub mod DepthLaws
pub mod PartLaws
pub mod UsualLaws
