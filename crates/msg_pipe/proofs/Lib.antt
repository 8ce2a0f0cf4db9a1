pub mod PlainPipeLemmas
pub mod PlainPipesLemmas
pub mod TurnsLemmas
pub mod PlacesLemmas
