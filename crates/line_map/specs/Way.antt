pub mod Rule
pub mod Bounded
