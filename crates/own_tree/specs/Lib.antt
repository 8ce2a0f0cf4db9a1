pub mod Rows
pub mod Changes
pub mod Tallies
pub use Rattle.spec_control.specs.OwnershipTree
