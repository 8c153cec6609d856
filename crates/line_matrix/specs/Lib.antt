pub mod Matrix
pub mod Way
