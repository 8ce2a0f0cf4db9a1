pub mod OpenLemmas
pub mod LeftLemmas
pub mod StopLemmas
pub mod GoLemmas
pub mod ToldLemmas
pub mod StepLemmas
pub mod WayLemmas
pub mod ReadLemmas
pub mod EndLemmas
pub mod PeerLemmas
pub mod OutLemmas
pub mod PassLemmas
pub mod OpenMadeLemmas
pub mod FewLemmas
pub mod SayLemmas
pub mod IdentityLemmas
pub mod JoinLemmas
pub mod BehindLemmas
pub mod TurnLemmas
pub mod WantLemmas
pub mod WorkedLemmas
mod ReasonLemmas
mod SettlingLemmas
pub mod NamesLemmas
pub mod HoldLemmas
pub mod PlaceLemmas
pub mod OwnQuietLemmas
pub mod SettledLemmas
pub mod ChangeLemmas
pub mod SealLemmas
pub mod MessageLemmas
pub mod SaidLemmas
pub mod AskedLemmas
pub mod PastCallLemmas
pub mod GoneLemmas
pub mod UnsettledLemmas
pub mod OfPipesLemmas
pub mod MadeLemmas
pub mod HeldRowLemmas
pub mod QuietLemmas
pub mod NamedLemmas
pub mod CountLemmas
pub mod AsideLemmas
mod StandingCallLemmas
mod StandingOrderLemmas
pub mod CountedLemmas
pub mod GivenLemmas
pub mod SideLemmas
pub mod PastLemmas
pub mod ReceiveLemmas
pub mod CallLemmas
pub mod RowLemmas
mod OnceLemmas
mod DeskJoinLemmas
mod JoinedLemmas
mod ChangedLemmas
mod HalfLemmas
mod ThereLemmas
pub mod LawLemmas
mod OverLemmas
pub mod StandLemmas
pub mod DeskMessageLemmas
pub mod LastLemmas
pub mod SocketLemmas
pub mod SendLemmas
pub mod NewLemmas
