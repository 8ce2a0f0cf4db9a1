pub mod Order
pub mod Notes
pub mod Laws
pub mod Lent
pub mod Reaping
pub mod Serving
pub mod Waiting
pub mod GrowsOwed
