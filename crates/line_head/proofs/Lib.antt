pub mod LineLaws
pub mod HeadLaws
