pub mod Shape
pub mod Fits
