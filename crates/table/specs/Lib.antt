pub mod All
pub mod Read
pub mod Tested
