pub mod Next
pub mod Framed
pub mod Moved
