pub mod Bounded
pub mod Replied
