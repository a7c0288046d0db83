pub mod Behind
pub mod OneResult
