pub mod Compare
pub mod Table
pub mod Judged
