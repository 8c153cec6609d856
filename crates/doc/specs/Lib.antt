pub mod Lines
pub mod Document
pub mod Records
pub mod Holds
pub mod Way
