pub mod Reader
pub mod Stands
pub mod FirstRecord
pub mod Reasons
