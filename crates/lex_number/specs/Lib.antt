pub mod Number
pub mod Integer
pub mod ValueWord
pub mod Way
