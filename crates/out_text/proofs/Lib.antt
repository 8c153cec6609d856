pub mod WrittenLaws
pub mod LineLaws
pub mod DigitLaws
pub mod DecimalLaws
pub mod ValueLaws
