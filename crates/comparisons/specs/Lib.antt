pub mod Written
pub mod OwnReport
