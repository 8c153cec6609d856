pub mod NamedLaws
pub mod ListLaws
pub mod PinLaws
pub mod TableLaws
pub mod MapLaws
pub mod UsedLaws
pub mod SectionLaws
