pub mod Listed
pub mod Rules
pub mod Way
