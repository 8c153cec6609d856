pub mod PathWritten
pub mod Third
