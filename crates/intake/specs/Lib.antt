pub mod Verdict
pub mod Stored
pub mod Way
