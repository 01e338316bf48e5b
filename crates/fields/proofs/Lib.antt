pub mod DigitLaws
pub mod FieldLaws
pub mod PastedLaws
pub mod ReadBack
pub mod Unique
