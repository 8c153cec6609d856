pub mod OrderLaws
pub mod SearchLaws
pub mod ReadyLaws
pub mod EntryLaws
mod RowLaws
mod WholeLaws
pub mod SquareLaws
pub mod OneLaws
