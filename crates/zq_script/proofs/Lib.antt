pub mod StandardFacts
mod WordsLemmas
mod AnswerLemmas
mod PlaceLemmas
mod PartLemmas
mod OptionLemmas
mod KnownLemmas
mod GroupLemmas
mod ScriptLemmas
mod PartTextLemmas
mod KindLemmas
