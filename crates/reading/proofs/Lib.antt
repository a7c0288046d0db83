pub mod Standing
pub mod StampRead
pub mod GroupRead
