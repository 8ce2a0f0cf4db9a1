mod ReadStepLemmas
mod ValueLemmas
mod ReadLemmas
pub mod DeedLemmas
pub mod ThinLemmas
pub mod EventNameLemmas
pub mod CloseLemmas
pub mod AmongLemmas
pub mod SocketLemmas
pub mod OpenLemmas
pub mod EventLemmas
pub mod BeginLemmas
pub mod GoLemmas
pub mod EventMadeLemmas
pub mod EventJournalLemmas
pub mod OneEventLemmas
pub mod OneRunLemmas
mod AskLemmas
mod CountLemmas
mod NameLemmas
mod MakeLemmas
mod BoundLemmas
mod ObjectLemmas
mod LivingLemmas
mod JournalRowLemmas
mod MadeRowLemmas
mod DoneJournalLemmas
mod DoneStayLemmas
mod RestLemmas
mod ItemLemmas
mod HoldLemmas
mod RoundLemmas
mod PayLemmas
mod MadeLemmas
mod DoneLemmas
pub mod EventsLemmas
pub mod EraseLemmas
pub mod BlankLemmas
pub mod FrameLemmas
pub mod SlotLemmas
pub mod WalkLemmas
pub mod OwnJoinLemmas
pub mod AlikeLemmas
pub mod LetterLemmas
pub mod LookLemmas
pub mod PumpLemmas
pub mod CallLemmas
pub mod StandLemmas
pub mod TryLemmas
pub mod LineLemmas
pub mod KeepLemmas
pub mod ReapLemmas
pub mod StepLemmas
pub mod ActorLemmas
pub mod TurnLemmas
pub mod RunLemmas
pub mod JournalLemmas
pub mod TimeLemmas
pub mod QuietLemmas
pub mod LocalLemmas
