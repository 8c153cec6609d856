pub mod Written
pub mod Alike
pub mod Way
