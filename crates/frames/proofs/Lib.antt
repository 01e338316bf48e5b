pub mod Budgets
pub mod Counts
pub mod FrameTables
pub mod LaidOut
pub mod NoTable
pub mod Parts
pub mod ReachedOnce
