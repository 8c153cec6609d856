pub mod LoopLaws
pub mod ReachLaws
pub mod RecordLaws
pub mod SoundLaws
pub mod DepthLaws
pub mod RangeLaws
