pub mod Apart
pub mod Forest
pub mod Shifting
pub mod Strip
pub mod Unlooped
pub mod Ways
