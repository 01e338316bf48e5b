pub mod DecodeLaws
pub mod Decoding
pub mod Handed
pub mod Narrow
pub mod ReadLaws
pub mod TakenLaws
pub mod Unique
