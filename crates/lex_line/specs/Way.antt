pub mod LineFeeds
pub mod Spans
pub mod LineEnds
pub mod Resumes
