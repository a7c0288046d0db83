pub mod Machine
pub mod Short
pub mod History
pub mod Answer
