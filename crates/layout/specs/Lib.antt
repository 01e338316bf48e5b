pub mod Ahead
pub mod Laid
pub mod Pieces
pub mod Walking
