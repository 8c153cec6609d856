pub mod Judged
pub mod Judging
