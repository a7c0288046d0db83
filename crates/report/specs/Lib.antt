pub mod Run
pub mod Settling
