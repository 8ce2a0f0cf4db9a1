pub mod KeptLemmas
pub mod RestLemmas
pub mod PartLemmas
pub mod SilentLemmas
pub mod DropLemmas
pub mod SayLemmas
pub mod CountLemmas
