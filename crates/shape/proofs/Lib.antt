pub mod Entries
pub mod FittingGroup
pub mod StampPassed
pub mod GroupSeen
pub mod GroupWritten
pub mod Reaching
