pub mod SearchLaws
pub mod NameLaws
pub mod MarkLaws
mod TailLaws
