-- A delivery where neither a bind nor a Plug is the oldest command wants no memory.
use Rattle.std.specs.Prelude.{◌≡◌, ◌∷◌, [], ℕ, false, List, refl}
use Rattle.zq_base.specs.declared.ids.ObjId.{ObjId}
use Rattle.spec_control.specs.declared.letter.Letter.{Letter}
use Rattle.spec_control.specs.declared.letter.Word.{Word}
use Rattle.spec_control.specs.declared.letter.Word.TheVariants.{Own, Plug, TermReq, Term, TermAck, PipeBind, PipeTerm, PipeTermAck, Stop, Reap}
use Rattle.spec_control.specs.Control.{Control}
use Rattle.ctl_moves.specs.Attaching.{binds_end}
use Rattle.desk.specs.Memory.{NoBindWaits, NoPlugWaits}

-- what is so of an empty mailbox, and where a command waits that is neither
pub no_bind : {X : Type 0} (c : Control) (slot : ℕ) → ((letter : Letter) (behind : List Letter) → c.boxes slot ≡ letter ∷ behind → binds_end letter.word ≡ false → X) → (c.boxes slot ≡ [] → X) → NoBindWaits c slot → NoPlugWaits c slot → X
no_bind {X} c slot some empty none no_plug = of (c.boxes slot) refl
  where
    at : (to : ObjId) (word : Word) (behind : List Letter) → c.boxes slot ≡ record { to = to; word = word } ∷ behind → X
    at to (Own child) behind e = some _ behind e refl
    at to (Plug end) behind e = absurd (no_plug to end behind e)
    at to (TermReq child) behind e = some _ behind e refl
    at to Term behind e = some _ behind e refl
    at to (TermAck child) behind e = some _ behind e refl
    at to (PipeBind end peer) behind e = absurd (none to end peer behind e)
    at to (PipeTerm end) behind e = some _ behind e refl
    at to (PipeTermAck end) behind e = some _ behind e refl
    at to Stop behind e = some _ behind e refl
    at to (Reap socket) behind e = some _ behind e refl

    of : (ls : List Letter) → c.boxes slot ≡ ls → X
    of [] e = empty e
    of (l ∷ behind) e = at l.to l.word behind e
