pub mod Report
pub mod Pass
