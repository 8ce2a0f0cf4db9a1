pub mod NamesLemmas
pub mod WaitingLemmas
mod KeyLemmas
mod HeldLemmas
mod OwnedLemmas
mod NotedLemmas
mod ListsLemmas
pub mod OrderLemmas
