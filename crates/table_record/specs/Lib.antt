pub mod Records
pub mod Way
