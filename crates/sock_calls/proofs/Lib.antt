pub mod CallsLemmas
pub mod PassingLemmas
pub mod MakingLemmas
mod CameLemmas
