mod SilentLemmas
mod WalkLemmas
mod EventLemmas
mod BeginLemmas
mod DoneLemmas
mod CarryLemmas
mod OwedLemmas
mod ReapLemmas
mod CloseLemmas
mod PlaneLemmas
mod PlaneDoneLemmas
mod OldestBindLemmas
pub mod PlugLemmas
mod TakenLemmas
mod DeliverLemmas
mod DelimitLemmas
mod MakingLemmas
mod OwnAskingLemmas
mod AcceptedLemmas
mod RefusalLemmas
mod StrikeLemmas
mod StruckLemmas
mod BindLemmas
mod ConnectLemmas
mod FreshLemmas
mod UnmadeLemmas
mod ShakenLemmas
mod OwnerLemmas
mod NamedPlaneLemmas
mod JoinHeldLemmas
mod HeldEventLemmas
mod HeldPlaneLemmas
mod ToldLemmas
mod GiveLemmas
mod OnWayLemmas
pub mod StillLemmas
pub mod FulfilEventLemmas
pub mod FulfilPlaneLemmas
pub mod FulfillingLemmas
pub mod ComeLemmas
pub mod ServedLemmas
pub mod ListenLemmas
pub mod DialEventLemmas
pub mod DialPlaneLemmas
