pub mod Fits
pub mod Fitting
