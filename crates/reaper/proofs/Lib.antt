pub mod LookLemmas
mod ReadLemmas
mod GoLemmas
mod RestLemmas
mod DoneLemmas
