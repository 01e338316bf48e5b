pub mod Decoded
pub mod ReadSet
pub mod SetLine
