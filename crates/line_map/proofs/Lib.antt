pub mod GridLaws
pub mod LineLaws
pub mod MapLaws
