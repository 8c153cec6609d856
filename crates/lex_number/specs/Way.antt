pub mod At
pub mod Block
pub mod Capped
pub mod In
