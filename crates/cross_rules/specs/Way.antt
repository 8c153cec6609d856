pub mod Findings
pub mod HoldsText
pub mod Nth
pub mod Repeated
pub mod First
pub mod Sgr
