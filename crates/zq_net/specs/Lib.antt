pub mod Answer
pub mod Counts
pub mod Patience
