pub mod Chunks
pub mod Values
pub mod TakeLaws
pub mod LineLaws
pub mod ReadLaws
pub mod LoopLaws
pub mod Rounds
pub mod Unique
