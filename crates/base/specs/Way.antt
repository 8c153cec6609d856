pub mod Joined
pub mod Class
