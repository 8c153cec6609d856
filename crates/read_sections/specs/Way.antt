pub mod Open
pub mod Sections
