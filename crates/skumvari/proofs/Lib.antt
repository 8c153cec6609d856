mod AnswerLaws
mod NumberLaws
pub mod RoomLaws
