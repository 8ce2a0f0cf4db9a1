-- What a session hands to the control plane, and the output that it may be asked for (own choice).
use Rattle.std.specs.Prelude.{◌≡◌, List, Some, Contains, false}
use Rattle.zq_base.specs.declared.options.Peer.{Peer}
use Rattle.spec_control.specs.declared.end.Reason.TheVariants.{Linger, Link}
use Rattle.spec_control.specs.declared.request.Req.TheVariants.{Shaken, AskEnd, AskOver, OutputOver}
use Rattle.spec_link.specs.declared.due.Due.{Due}
use Rattle.spec_link.specs.declared.due.Due.TheVariants.{Request, Delimiter}
use Rattle.spec_link.specs.LinkAct.{LinkAct}
use Rattle.spec_link.specs.Parts.{SomethingToWrite}
use Rattle.spec_link.specs.History.{Basis, Standing}
use Rattle.spec_link.specs.Turn.{WasDue, WasShaken}

abbrev pub WasHanded : Standing → Due → Type 0
WasHanded s due = Contains s.handed due

-- it became due, and wasn't handed out before
pub record MayHand (s : Standing) (due : Due) : Type 0 where
  pub due_is : WasDue s due
  pub once : WasHanded s due → ⊥

-- all that became due was handed out
pub record IsAllHanded (b : Basis) (s : Standing) : Type 0 where
  pub linger : WasDue s (Request (AskEnd b.end Linger)) → WasHanded s (Request (AskEnd b.end Linger))
  pub link : WasDue s (Request (AskEnd b.end Link)) → WasHanded s (Request (AskEnd b.end Link))
  pub over : WasDue s (Request (AskOver b.object)) → WasHanded s (Request (AskOver b.object))
  pub output : WasDue s (Request (OutputOver b.object)) → WasHanded s (Request (OutputOver b.object))
  pub delimiter : WasDue s (Delimiter b.end) → WasHanded s (Delimiter b.end)
  pub shaken : WasShaken b s → (peer : Peer) × WasHanded s (Request (Shaken b.object peer))

-- output is left that it would still write: it didn't give up, it lingers, and something is to be written at its link
pub record HasOutputLeft (b : Basis) (s : Standing) : Type 0 where
  pub up : s.gave_up ≡ false
  pub lingers : b.linger ≡ Some 0 → ⊥
  pub acts : List LinkAct
  pub link : s.link ≡ Some acts
  pub some : SomethingToWrite b.opts acts
