pub mod Rule
pub mod Steps
pub mod Halves
pub mod Batch
