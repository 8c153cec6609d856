pub mod RangeLaws
pub mod RuleLaws
pub mod MarkLaws
pub mod SectionLaws
pub mod JoinLaws
