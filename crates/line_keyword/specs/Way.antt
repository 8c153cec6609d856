pub mod Rule
pub mod Bounded
pub mod Row
