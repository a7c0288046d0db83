pub mod OneResult
pub mod Sizes
