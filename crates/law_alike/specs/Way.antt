pub mod Same
pub mod Found
pub mod Squeezed
pub mod Carried
