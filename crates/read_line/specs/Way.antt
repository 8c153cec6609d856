pub mod Listed
pub mod Steps
pub mod Trace
pub mod Walk
