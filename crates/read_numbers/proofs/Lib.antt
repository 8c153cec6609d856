pub mod InTextLaws
pub mod GivenLaws
pub mod StagingLaws
