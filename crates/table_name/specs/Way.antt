pub mod Hash
pub mod Search
