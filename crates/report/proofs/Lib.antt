pub mod Endings
pub mod OneResult
