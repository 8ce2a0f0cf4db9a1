pub mod EnvelopeLemmas
pub mod PartnersLemmas
pub mod ReceiveLemmas
pub mod ReqLemmas
pub mod RepLemmas
