pub mod Digits
pub mod Held
pub mod Pasted
pub mod Reading
