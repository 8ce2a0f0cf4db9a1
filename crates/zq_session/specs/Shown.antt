-- What the counts of a link show of the acts at it (own choice).
use Rattle.std.specs.Prelude.{◌≡◌, ◌⊎◌, ℕ, List, Contains}
use Rattle.zq_outer.specs.Count.{RoseIf}
use Rattle.zq_outer.specs.declared.link.LinkGot.{LinkGot}
use Rattle.zq_outer.specs.declared.link.LinkGot.TheVariants as got
use Rattle.zq_outer.specs.declared.link.LinkPut.{LinkPut}
use Rattle.zq_outer.specs.declared.link.LinkPut.TheVariants as put
use Rattle.spec_link.specs.LinkAct.{LinkAct, Wire, Writes, Reads}

-- a write or a read that was answered so
abbrev pub IsAnswered : LinkPut → LinkGot → LinkAct → Type 0
IsAnswered p g act =
    ((octets : List ℕ) × (act ≡ Wire (Writes p octets))) ⊎ ((octets : List ℕ) × (act ≡ Wire (Reads g octets)))

-- one of these acts was
abbrev pub HasAnswer : LinkPut → LinkGot → List LinkAct → Type 0
HasAnswer p g acts = (act : LinkAct) × Contains acts act × IsAnswered p g act

-- the link says how often it failed, wasn't ready and had ended: no count falls, and each rose where an act was answered so
pub record AreShown (acts : List LinkAct) (faults faults' stalls stalls' ends ends' : ℕ) : Type 0 where
  pub failed : RoseIf faults faults' (HasAnswer put.Failed got.Failed acts)
  pub stalled : RoseIf stalls stalls' (HasAnswer put.NotReady got.NotReady acts)
  pub ended : RoseIf ends ends' (HasAnswer put.Ended got.Ended acts)

-- what the counts of this link show, from then to now
abbrev pub ShownBy : {L : Type 0} → (faults stalls ends : L → ℕ) → (old new : L) → List LinkAct → Type 0
ShownBy faults stalls ends old new acts = AreShown acts (faults old) (faults new) (stalls old) (stalls new) (ends old) (ends new)
