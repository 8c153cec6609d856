pub mod Marks
pub mod StepWords
