pub mod BookLaws
pub mod GroupLaws
pub mod VerdictLaws
pub mod AcceptedLaws
pub mod DemandLaws
