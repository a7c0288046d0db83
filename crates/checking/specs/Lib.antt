pub mod WellFormed
pub mod Surveyed
pub mod Greatest
