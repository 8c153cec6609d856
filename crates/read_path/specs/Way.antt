pub mod Path
pub mod Block
