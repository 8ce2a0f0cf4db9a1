pub mod PeerLemmas
pub mod SayableLemmas
pub mod OutcomeLemmas
