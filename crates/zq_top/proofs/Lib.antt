mod LocalLemmas
pub mod Completes
pub mod Hears
pub mod Dues
mod ToldLemmas
