pub mod TargetLaws
pub mod StoringLaws
pub mod LiftLaws
pub mod FrontLaws
pub mod StoreLaws
