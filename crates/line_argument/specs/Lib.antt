pub mod Argument
pub mod Way
