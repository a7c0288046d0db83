pub mod Places
pub mod Before
pub mod Counts
pub mod Marks
pub mod Stamps
pub mod Growing
pub mod Flight
pub mod Samples
