pub mod Head
pub mod Way
