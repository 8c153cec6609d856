pub mod PlaceLaws
pub mod RecordLaws
pub mod BackLaws
pub mod StageLaws
