pub mod RoomLaws
pub mod IntakeLaws
mod ReadLaws
pub mod ReadyLaws
pub mod CrossLaws
