-- Which deliveries may want memory: only a bind and a Plug take any (own choice).
use Rattle.std.specs.Prelude.{◌≡◌, ◌≢◌, ◌∷◌, ℕ, List, Option, Some}
use Rattle.zq_base.specs.declared.ids.EndId.{EndId}
use Rattle.zq_base.specs.declared.ids.ObjId.{ObjId}
use Rattle.spec_control.specs.declared.letter.Letter.{Letter}
use Rattle.spec_control.specs.declared.letter.Word.TheVariants.{Plug, PipeBind}
use Rattle.spec_control.specs.Control.{Control}
use Rattle.spec_control.specs.Moments.{first_waiting}

-- a mailbox is empty, or its oldest command binds no end
abbrev pub NoBindWaits : Control → (slot : ℕ) → Type 0
NoBindWaits c slot = (to : ObjId) (e : EndId) (peer : List ℕ) (behind : List Letter) → c.boxes slot ≢ record { to = to; word = PipeBind e peer } ∷ behind

-- a mailbox is empty, or its oldest command takes no listener and no session in
abbrev pub NoPlugWaits : Control → (slot : ℕ) → Type 0
NoPlugWaits c slot = (to : ObjId) (end : Option EndId) (behind : List Letter) → c.boxes slot ≢ record { to = to; word = Plug end } ∷ behind

-- the reaper's mailboxes are empty, or the oldest command of the first that is not binds no end
abbrev pub NoBindIsFirst : Control → Type 0
NoBindIsFirst c = (slot : ℕ) → first_waiting c ≡ Some slot → NoBindWaits c slot
