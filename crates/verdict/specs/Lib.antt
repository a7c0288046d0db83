pub mod Verdict
pub mod Table
pub mod Lawful
