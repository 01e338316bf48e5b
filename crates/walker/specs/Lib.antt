pub mod Served
pub mod Least
pub mod Step
pub mod Gathered
pub mod Jobs
