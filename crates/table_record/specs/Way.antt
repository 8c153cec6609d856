pub mod Standing
pub mod Stage
