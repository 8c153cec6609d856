pub mod LineLaws
pub mod WordLaws
pub mod ByteLaws
pub mod FormLaws
mod SameLaws
pub mod FeedLaws
mod ShortLaws
mod SureLaws
