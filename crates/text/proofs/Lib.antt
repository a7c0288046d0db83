pub mod Turns
pub mod Parts
pub mod Answered
pub mod Lines
pub mod Samples
