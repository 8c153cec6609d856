pub mod Lines
pub mod Words
pub mod ByteRules
pub mod Way
