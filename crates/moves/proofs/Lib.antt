pub mod Next
pub mod Member
pub mod Order
pub mod Rest
pub mod Moves
pub mod Unique
