-- What is so after each control run, whatever order commands are delivered in (own choice, after libzmq's `ctx_t`, `own_t` and `pipe_t`).
use Rattle.std.specs.Prelude.{◌≡◌, ℕ, true, false, List}
use Rattle.spec_control.specs.declared.letter.Letter.{Letter}
use Rattle.spec_control.specs.declared.entry.Item.{Item}
use Rattle.spec_control.specs.Stage.{has_ended}
use Rattle.spec_control.specs.Rows.{obj}
use Rattle.spec_control.specs.Control.{Control, begun}
use Rattle.spec_control.specs.ControlRun.{MayDeliver, after_all, IsControlRun}
use Rattle.spec_control.specs.Quiescence.{IsQuiescent}
use Rattle.control_laws.specs.Kept.{Kept}

-- after each control run: each event moved the rows by steps, each object has done what it was asked to, and the mailboxes hold what the rows say is on its way
abbrev pub RunsAreKept : (N S : Type 0) → Type 0
RunsAreKept N S = (workers : ℕ) (items : List (Item N S)) → IsControlRun (begun workers) items → Kept (after_all items (begun workers))

-- where nothing is on its way and nobody waits, the root has ended
abbrev pub QuiescentRootHasEnded : (N S : Type 0) → Type 0
QuiescentRootHasEnded N S = (workers : ℕ) (items : List (Item N S)) → IsControlRun (begun workers) items →
    let c = after_all items (begun workers) in IsQuiescent c → has_ended (obj c.rows 0).stage ≡ true

-- a letter lies in the mailbox of the object that it is for, which has not ended
pub record IsForLiving (c : Control) (slot : ℕ) (letter : Letter) : Type 0 where
  pub here : (obj c.rows letter.to.0).slot ≡ slot
  pub lives : has_ended (obj c.rows letter.to.0).stage ≡ false

-- so does each letter that is taken out
abbrev pub DeliveredToLiving : (N S : Type 0) → Type 0
DeliveredToLiving N S = (workers : ℕ) (items : List (Item N S)) → IsControlRun (begun workers) items →
    let c = after_all items (begun workers) in (slot : ℕ) (letter : Letter) → MayDeliver c slot letter → IsForLiving c slot letter
