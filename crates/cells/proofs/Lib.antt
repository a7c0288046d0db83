pub mod Entries
pub mod OneResult
