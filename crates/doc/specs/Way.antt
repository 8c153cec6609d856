pub mod Found
pub mod Holds
pub mod Staged
pub mod Idle
