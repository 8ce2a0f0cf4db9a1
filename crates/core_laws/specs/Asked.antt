-- Which end is asked to read on by a letter that the reaper takes (own choice, after libzmq's `pipe_t`).
use Rattle.std.specs.Prelude.{◌≡◌, true}
use Rattle.zq_base.specs.declared.ids.EndId.{EndId}
use Rattle.zq_base.specs.declared.ids.SlotId.{SlotId}
use Rattle.spec_control.specs.declared.letter.Letter.{Letter}
use Rattle.spec_control.specs.declared.letter.Word.TheVariants.{PipeTerm}
use Rattle.spec_control.specs.Rows.{obj}
use Rattle.spec_control.specs.Control.{owner_of}
use Rattle.desk.specs.declared.given.Given.{Given}
use Rattle.ctl_plane.specs.Past.{control_of}
use Rattle.plain_desk.specs.Lent.{IsOneOrder, Lent}
use Rattle.plain_desk.specs.Reaping.{is_taken}
use Rattle.plain_desk.specs.Waiting.{HearsAt}

-- it is one of the closed socket that got the letter, which was taken over
pub record IsItsOwn {N O I T : Type 0} (new : Lent (Given N O I) N T) (letter : Letter) (e : EndId) : Type 0 where
  pub own : owner_of (control_of new.past) e ≡ letter.to.0
  pub taken : is_taken (obj (control_of new.past).rows letter.to.0) ≡ true

-- ---- the law

-- so each that a PipeTerm asks, of whichever of its mailboxes
abbrev pub AsksItsOwn : (N O I T : Type 0) → Type 0
AsksItsOwn N O I T = (slot : SlotId) (old new : Lent (Given N O I) N T) → IsOneOrder old → IsOneOrder new → (h : HearsAt slot old new) → (e : EndId) →
    h.hears.letter.word ≡ PipeTerm e → IsItsOwn new h.hears.letter e
