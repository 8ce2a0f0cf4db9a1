pub mod Calls
pub mod Steps
pub mod Going
pub mod ReapLaws
