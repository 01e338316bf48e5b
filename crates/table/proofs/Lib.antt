pub mod All
pub mod Reading
pub mod Accepted
pub mod Unique
pub mod Tested
