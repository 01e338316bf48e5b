pub mod Cases
pub mod FirstLaws
pub mod MaskFaults
pub mod MaskLaws
pub mod PassedLaws
pub mod ScanLaws
pub mod Unique
