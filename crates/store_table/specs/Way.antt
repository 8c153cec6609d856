pub mod Targets
pub mod Front
