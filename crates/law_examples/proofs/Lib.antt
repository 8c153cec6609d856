pub mod ExampleLaws
pub mod AppliedLaws
pub mod FormExampleLaws
