pub mod If
pub mod Bytes
pub mod Runs
pub mod Broken
pub mod Refusal
pub mod Way
