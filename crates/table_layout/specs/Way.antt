pub mod Bases
pub mod Parts
