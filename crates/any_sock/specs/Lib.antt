pub mod Over
pub mod Stopped
pub mod Calls
pub mod Peers
pub mod Groups
pub mod Fresh
pub mod Told
