pub mod FrontLaws
pub mod LineLaws
pub mod BodyLaws
pub mod RunLaws
