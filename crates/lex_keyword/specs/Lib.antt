pub mod Names
pub mod Bracket
pub mod Way
