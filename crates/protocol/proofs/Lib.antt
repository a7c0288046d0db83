pub mod Judged
pub mod Admitting
pub mod OneResult
