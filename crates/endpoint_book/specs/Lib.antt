pub mod View
pub mod Keys
pub mod Lines
pub mod WaitLists
pub mod Owned
pub mod Held
pub mod NotedWaits
pub use Rattle.spec_control.specs.EndpointBook
