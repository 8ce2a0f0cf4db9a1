pub mod OverLemmas
pub mod KeepLemmas
pub mod EventLemmas
pub mod StayLemmas
pub mod OrderLemmas
mod DoneLemmas
pub mod TurnLemmas
pub mod SealLemmas
pub mod CapacityLemmas
pub mod GoesLemmas
