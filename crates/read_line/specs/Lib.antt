pub mod Reading
pub mod Way
