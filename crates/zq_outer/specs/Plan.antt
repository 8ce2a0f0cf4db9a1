-- The plan of a host in memory: which calls fail or stall, when a link is cut, and what peers say (own choice).
use Rattle.std.specs.Prelude.{ℕ, ◌+◌, ◌-◌, ◌^◌, List, min, Option, option_map, ◌==◌, Contains}
use Rattle.std.specs.List.{find}
use Rattle.zq_outer.specs.declared.host.Dialled.{Dialled}
use Rattle.zq_outer.specs.declared.host.Dialled.TheVariants as dial
use Rattle.zq_outer.specs.declared.plan.CallKind.{CallKind}
use Rattle.zq_outer.specs.declared.plan.PlannedCall.{PlannedCall}
use Rattle.zq_outer.specs.declared.plan.Cut.{Cut}

-- the call of this kind and number is listed
abbrev pub IsListed : List PlannedCall → CallKind → ℕ → Type 0
IsListed calls kind number = Contains calls (record { kind = kind; number = number })

-- the number of the call behind so many, from 1 (a number that reaches 2^64 - 1 stays there)
abbrev pub number_after : ℕ → ℕ
number_after made = min (made + 1) (2 ^ 64 - 1)

-- how many connects gave a link, behind one that answered so
abbrev pub links_after : {L : Type 0} → Dialled L → ℕ → ℕ
links_after (dial.Linked link) links = number_after links
links_after dial.NotReady links = links
links_after dial.Failed links = links

-- after how many octets this link is cut: the first that is listed for it
abbrev pub cut_of : List Cut → ℕ → Option ℕ
cut_of cuts link = option_map (λ cut. cut.octets) (find (λ cut. cut.link == link) cuts)

-- a host in memory: its plan, and how many calls of each kind it has had; a connect that gave a link counts one more link
pub record Hosted : Type 0 where
  pub fails : List PlannedCall
  pub stalls : List PlannedCall
  pub cuts : List Cut
  pub listens : ℕ
  pub accepts : ℕ
  pub connects : ℕ
  pub links : ℕ
  pub failed : ℕ
  pub stalled : ℕ

-- the call of this kind and number fails by the plan
abbrev pub IsToFail : Hosted → CallKind → ℕ → Type 0
IsToFail h kind number = IsListed h.fails kind number

-- the call of this kind and number stalls by the plan, since it isn't to fail
abbrev pub IsToStall : Hosted → CallKind → ℕ → Type 0
IsToStall h kind number = (IsListed h.fails kind number → ⊥) × IsListed h.stalls kind number

-- the next call of a kind, of which so many were made, goes by the plan
pub record GoesByPlan (before : Hosted) (kind : CallKind) (made : ℕ) (fails stalls : Type 0) : Type 0 where
  pub fails_then : IsToFail before kind (number_after made) → fails
  pub stalls_then : IsToStall before kind (number_after made) → stalls
