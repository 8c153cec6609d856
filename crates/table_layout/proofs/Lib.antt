pub mod LayoutLaws
pub mod StoreLaws
pub mod ViewLaws
pub mod PartLaws
pub mod LaidLaws
