-- What a dial did, by the moment from which it was due (own choice).
use Rattle.std.specs.Prelude.{◌≡◌, ℕ, ◌<◌, ◌≤◌, List, [], Option, Some, None}
use Rattle.zq_base.specs.declared.ids.ObjId.{ObjId}
use Rattle.zq_base.specs.declared.endpoint.Address.{Address}
use Rattle.zq_base.specs.declared.options.EngineOpts.{EngineOpts}
use Rattle.zq_outer.specs.Count.{RoseIf}
use Rattle.zq_outer.specs.Host.{IsNew}
use Rattle.spec_link.specs.LinkAct.{HostAnswer, Linked, NotReady, Failed}
use Rattle.spec_link.specs.History.{dial_at_after}
use Rattle.link_side.specs.declared.behind.Behind.TheVariants.{Nothing}
use Rattle.link_side.specs.Kept.{Side, HasRun}
use Rattle.link_side.specs.declared.dialler.Dial.{Dial}
use Rattle.link_side.specs.declared.dialler.Dial.TheVariants as dial

-- what dials: for which session, where to, its engine's options, the interval, and the moment from which a dial is due
pub record DiallerState : Type 0 where
  pub object : ObjId
  pub to : Address
  pub opts : EngineOpts
  pub interval : ℕ
  pub dial_at : ℕ

-- the host's answer, where it was asked
abbrev pub answer_of : {L : Type 0} → Dial L → Option HostAnswer
answer_of (dial.Linked link side) = Some Linked
answer_of dial.NotReady = Some NotReady
answer_of dial.Failed = Some Failed
answer_of dial.Early = None

-- the host was asked exactly where the moment had come
abbrev pub IsDial : ℕ → ℕ → Option HostAnswer → Type 0
IsDial dial_at now None = now < dial_at
IsDial dial_at now (Some answer) = dial_at ≤ now

-- the moment from which the next dial is due
abbrev pub moment_after : ℕ → ℕ → Option HostAnswer → ℕ → ℕ
moment_after interval now None dial_at = dial_at
moment_after interval now (Some answer) dial_at = dial_at_after interval now answer dial_at

-- a side of a link on which nothing was said or heard
abbrev pub IsFresh : EngineOpts → Side → Type 0
IsFresh opts side = HasRun opts [] side.kept × (side.behind ≡ Nothing)

-- where a link was given, its side is fresh, and it tells of no octets yet
abbrev pub IfDialled : {L : Type 0} → Dial L → (Side → Type 0) → (heard said : L → Option (List ℕ)) → Type 0
IfDialled (dial.Linked link side) fresh heard said = fresh side × IsNew (heard link) (said link)
IfDialled dial.NotReady fresh heard said = Unit {0}
IfDialled dial.Failed fresh heard said = Unit {0}
IfDialled dial.Early fresh heard said = Unit {0}

-- what the counts of a host show of an answer
pub record HostCounts (answer : Option HostAnswer) (faults faults' stalls stalls' : ℕ) : Type 0 where
  pub failed : RoseIf faults faults' (answer ≡ Some Failed)
  pub stalled : RoseIf stalls stalls' (answer ≡ Some NotReady)
