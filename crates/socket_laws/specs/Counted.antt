-- The counts of settled pipes, where steps go on at others (own choice).
use Rattle.std.specs.Prelude.{◌≡◌, List, [], ◌∷◌, ◌++◌, None}
use Rattle.std.specs.List.{AllByRecursion}
use Rattle.spec_pattern.specs.PipeStep.{PipeStep}
use Rattle.spec_control.specs.Control.{Control, Settlement}
use Rattle.spec_run.specs.OwnedRun.{settlement_of, IsCountedBy, AreCountedBy}
use Rattle.run_laws.specs.CapacitiesStay.{pipe_at}

-- these steps are at pipes that were not settled
abbrev pub AreUnsettled : Control → List PipeStep → Type 0
AreUnsettled c steps = AllByRecursion (λ s. settlement_of c (pipe_at s) ≡ None) steps

pub record CountsGoOn : Type 0 where
  -- further steps at other pipes leave the counts of those that were settled
  pub steps : (c : Control) (past more : List PipeStep) → AreCountedBy past c.settlements → AreUnsettled c more → AreCountedBy (past ++ more) c.settlements
  -- a further settlement that is counted by the steps past
  pub settled : (past : List PipeStep) (settlements : List Settlement) (s : Settlement) → AreCountedBy past settlements → IsCountedBy past s →
      AreCountedBy past (settlements ++ s ∷ [])
