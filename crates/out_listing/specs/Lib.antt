pub mod Shown
pub mod Listing
pub mod Way
