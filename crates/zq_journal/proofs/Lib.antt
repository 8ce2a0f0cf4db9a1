pub mod PushLemmas
mod LivingLemmas
