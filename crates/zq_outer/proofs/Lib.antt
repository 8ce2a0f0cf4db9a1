pub mod ClockLemmas
pub mod TapeLemmas
pub mod SourceLemmas
pub mod SinkLemmas
pub mod MemLinkLemmas
pub mod CircleLemmas
pub mod MemHostLemmas
