pub mod Sound
pub mod Tests
pub mod Way
