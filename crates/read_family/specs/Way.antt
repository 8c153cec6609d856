pub mod Pins
pub mod Blocks
pub mod Family
