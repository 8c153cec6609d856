pub mod BlockLaws
pub mod KeptLaws
pub mod InsideLaws
