-- What a listener's calls of its host did (own choice).
use Rattle.std.specs.Prelude.{◌≡◌, ℕ, Bool, true, false, Option, Some, None}
use Rattle.std.specs.List.{fold}
use Rattle.zq_base.specs.declared.ids.ObjId.{ObjId}
use Rattle.zq_base.specs.declared.endpoint.Address.{Address}
use Rattle.zq_outer.specs.Count.{RoseIf}
use Rattle.spec_link.specs.LinkAct.{HostAnswer, Linked, NotReady, Failed}
use Rattle.spec_link.specs.Listening.{ListenerStanding, Listened, after_event, accept_events, IsListenerTurn}
use Rattle.zq_session.specs.declared.listener.Accepted.{Accepted}
use Rattle.zq_session.specs.declared.listener.Accepted.TheVariants as accepted

-- a listener: its number, where it listens, and how it stands
pub record ListenerState : Type 0 where
  pub object : ObjId
  pub at : Address
  pub standing : ListenerStanding

-- where a link was accepted, this holds of it
abbrev pub IfAccepted : {L : Type 0} → Accepted L → (L → Type 0) → Type 0
IfAccepted (accepted.Linked link) holds = holds link
IfAccepted accepted.Idle holds = Unit {0}

-- whether a link was accepted
abbrev pub gave_link : {L : Type 0} → Accepted L → Bool
gave_link (accepted.Linked link) = true
gave_link accepted.Idle = false

-- a listen that went, or failed where the host's count of faults rose
pub record ListensBy (old new : ListenerStanding) (faults faults' : ℕ) : Type 0 where
  pub good : Bool
  pub after : new ≡ after_event old (Listened good)
  pub failed : RoseIf faults faults' (good ≡ false)

-- the answer of a turn's accept, where one was made: a link where it was linked; a fault or a stall where the host's count rose; and without an accept the host is left alone
pub record AcceptsBy {H L : Type 0} (old : ListenerStanding) (room : Bool) (result : Accepted L) (new : ListenerStanding) (host host' : H) (faults faults' stalls stalls' : ℕ) : Type 0 where
  pub answer : Option HostAnswer
  pub turn : IsListenerTurn old room answer
  pub after : new ≡ fold after_event old (accept_events answer)
  pub linked : gave_link result ≡ true → answer ≡ Some Linked
  pub idle : gave_link result ≡ false → answer ≡ Some Linked → ⊥
  pub failed : RoseIf faults faults' (answer ≡ Some Failed)
  pub stalled : RoseIf stalls stalls' (answer ≡ Some NotReady)
  pub alone : answer ≡ None → host' ≡ host
