pub mod Standing
pub mod Way
