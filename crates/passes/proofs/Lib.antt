pub mod Notes
pub mod MarkShown
pub mod Turns
pub mod OnePass
