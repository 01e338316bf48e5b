pub mod Path
pub mod Peeled
pub mod Ring
pub mod Stripping
