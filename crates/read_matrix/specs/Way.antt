pub mod Body
pub mod Run
