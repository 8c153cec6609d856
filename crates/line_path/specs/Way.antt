pub mod Rule
pub mod Section
pub mod Parts
pub mod Usual
