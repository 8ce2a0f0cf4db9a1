pub mod PlaceNamesLemmas
pub mod NameTableLemmas
pub mod RouterLemmas
pub mod SendLemmas
pub mod RecvLemmas
pub mod LawLemmas
pub mod TakeBackLemmas
