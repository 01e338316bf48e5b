pub mod Taking
pub mod Lines
pub mod Chunks
pub mod Reading
pub mod Rounds
