pub mod Modes
pub mod Slots
pub mod Room
pub mod Finding
pub mod Work
