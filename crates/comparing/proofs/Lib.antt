pub mod Exceeding
pub mod Ordering
pub mod Weighing
pub mod Answering
pub mod Samples
pub mod Tabled
