pub mod Lookup
pub mod Reading
