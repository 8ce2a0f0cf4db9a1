pub mod PlaceLemmas
pub mod SendLemmas
pub mod RecvLemmas
pub mod PumpLemmas
pub mod AttachLemmas
mod StayLemmas
pub mod DetachLemmas
pub mod FreshLemmas
pub mod ChangeLemmas
mod ToldLemmas
pub mod NamingLemmas
pub mod TakeBackLemmas
pub mod RouterBackLemmas
