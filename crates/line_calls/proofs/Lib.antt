pub mod StepLemmas
pub mod CallLemmas
