pub mod FittingLaws
pub mod Unique
