pub mod Members
pub mod Unique
