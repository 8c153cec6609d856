pub mod PinMap
pub mod Way
