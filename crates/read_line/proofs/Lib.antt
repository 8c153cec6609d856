pub mod ResultLaws
pub mod StepLaws
pub mod KeptLaws
pub mod WalkLaws
pub mod ReadingLaws
pub mod OutsideLaws
pub mod CountLaws
pub mod CrossLaws
pub mod QuietLaws
mod ListedLaws
