pub mod Given
pub mod Verdict
