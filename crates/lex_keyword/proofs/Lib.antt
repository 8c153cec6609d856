pub mod ByteLaws
pub mod LookupLaws
pub mod KeyLaws
pub mod WordLaws
pub mod BracketLaws
pub mod RowLaws
pub mod AnswerLaws
pub mod Readings
