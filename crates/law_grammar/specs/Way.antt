pub mod Grammar
pub mod Accepted
pub mod Shape
pub mod Closing
pub mod Lines
pub mod Passing
