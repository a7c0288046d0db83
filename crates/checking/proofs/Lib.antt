pub mod Walked
pub mod Marks
pub mod Walking
pub mod Told
pub mod Samples
