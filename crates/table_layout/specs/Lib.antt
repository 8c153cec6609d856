pub mod Layout
pub mod Bounds
pub mod Codes
pub mod View
pub mod Way
