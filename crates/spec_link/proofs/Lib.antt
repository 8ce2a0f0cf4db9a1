mod ShortLemmas
pub mod PutLemmas
pub mod CountLemmas
pub mod InFlightLemmas
pub mod AcrossLemmas
pub mod ExampleLemmas
pub mod TopicExampleLemmas
pub mod TopicLemmas
pub mod OneByOneLemmas
