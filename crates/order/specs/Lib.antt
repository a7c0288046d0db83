pub mod Order
pub mod Flight
