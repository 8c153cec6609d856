pub mod Words
pub mod Room
