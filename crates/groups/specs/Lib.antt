pub mod Groups
pub mod Pen
