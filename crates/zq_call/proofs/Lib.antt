mod WritesOn
pub mod Asked
pub mod Says
mod CommandLemmas
mod WordsLemmas
mod TellsLemmas
