pub mod Exists
pub mod GroupSum
pub mod NoRoom
pub mod NoZero
pub mod Unique
