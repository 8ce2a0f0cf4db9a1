pub mod PlacesLemmas
pub mod WriterLemmas
pub mod ReaderLemmas
pub mod HalvesLemmas
pub mod LookLemmas
pub mod BatchLemmas
