pub mod ShownLaws
pub mod TextLaws
pub mod OwnerLaws
pub mod LoopLaws
