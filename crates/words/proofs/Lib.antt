pub mod Decimals
pub mod Spelt
