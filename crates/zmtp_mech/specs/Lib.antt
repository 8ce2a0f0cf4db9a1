pub mod Mechanism
pub mod Step
