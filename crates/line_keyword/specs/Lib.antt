pub mod State
pub mod Keywords
pub mod Way
