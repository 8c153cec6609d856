pub mod Judged
pub mod Listed
pub mod Pins
pub mod Used
