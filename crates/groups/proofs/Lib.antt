pub mod Laying
pub mod Turns
pub mod Records
pub mod GroupSizes
pub mod GroupWritten
pub mod GroupsSame
pub mod LentTail
pub mod OneResult
