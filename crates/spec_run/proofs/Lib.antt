mod PlainLemmas
mod CapacityLemmas
mod FateLemmas
pub mod JournalLemmas
mod RowLemmas
mod ClosingFacts
mod LeftFacts
mod TermFacts
mod ShortFacts
mod ReadFacts
mod EventFacts
mod RefusedFacts
mod WorkedFacts
pub mod OrderLemmas
pub mod ExamplePipes
pub mod ExamplePeers
pub mod ExampleDrops
pub mod ExampleTopics
pub mod ExampleFacts
pub mod AttachLemmas
