pub mod Name
pub mod Way
