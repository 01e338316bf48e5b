pub mod Agreed
pub mod Carried
pub mod Replied
pub mod Extras
pub mod MaskFaults
pub mod Obeyed
pub mod Signed
pub mod Stands
