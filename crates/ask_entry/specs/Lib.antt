pub mod Entry
pub mod WholeMatrix
pub mod Way
