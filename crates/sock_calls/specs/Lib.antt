pub mod Calls
pub mod Others
pub mod Passing
