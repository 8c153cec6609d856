pub mod IfLaws
pub mod RunLaws
pub mod JoinedLaws
pub mod BrokenLaws
pub mod StoreLaws
pub mod TableLaws
