-- What comes to the reaper with one item of a control run (own choice, after libzmq's `reaper_t`).
use Rattle.std.specs.Prelude.{◌≡◌, ◌≤◌, ℕ, true, false, List, [], Option, Some, None, length}
use Rattle.zq_base.specs.declared.ids.ObjId.{ObjId}
use Rattle.spec_control.specs.declared.entry.Did.{Did}
use Rattle.spec_control.specs.declared.entry.Did.TheVariants.{Asked, Delivered, Delimited}
use Rattle.spec_control.specs.declared.entry.Item.{Item}
use Rattle.spec_control.specs.declared.entry.Item.TheVariants.{Event, Seen}
use Rattle.spec_control.specs.declared.letter.Word.{Word}
use Rattle.spec_control.specs.declared.letter.Word.TheVariants.{Own, Plug, TermReq, Term, TermAck, PipeBind, PipeTerm, PipeTermAck, Stop, Reap}
use Rattle.spec_control.specs.Rows.{obj}
use Rattle.spec_control.specs.Control.{Control, begun}
use Rattle.spec_control.specs.ControlRun.{FitsItem, IsControlRun, after_all, after_item, is_between}
use Rattle.desk.specs.Desk.{came_with}
use Rattle.socket_laws.specs.Behind.{is_request}

-- the closed socket that a command brings to the reaper
abbrev pub reaped_by_word : Word → Option ObjId
reaped_by_word (Own child) = None
reaped_by_word (Plug end) = None
reaped_by_word (TermReq child) = None
reaped_by_word Term = None
reaped_by_word (TermAck child) = None
reaped_by_word (PipeBind e peer) = None
reaped_by_word (PipeTerm e) = None
reaped_by_word (PipeTermAck e) = None
reaped_by_word Stop = None
reaped_by_word (Reap socket) = Some socket

module _ {N S : Type 0} where
  -- the one whose Reap an event processes
  abbrev pub reaped_in : Did N S → Option ObjId
  reaped_in (Asked req reply h) = None
  reaped_in (Delivered slot letter h) = reaped_by_word letter.word
  reaped_in (Delimited e h) = None

  abbrev pub reaped_by : Item N S → Option ObjId
  reaped_by (Event entry) = reaped_in entry.did
  reaped_by (Seen sight) = None

  -- an item without a Reap takes no object from between its close and its Reap; one with a Reap takes this alone, and with it no end joins; at the most one joins with an item that is no request
  pub record ComesBy (c : Control) (x : Item N S) : Type 0 where
    pub none : reaped_by x ≡ None → (i : ℕ) → is_between (obj c.rows i) ≡ true → is_between (obj (after_item x c).rows i) ≡ true
    pub one : (o : ObjId) → reaped_by x ≡ Some o → (i : ℕ) → is_between (obj c.rows i) ≡ true → is_between (obj (after_item x c).rows i) ≡ false → i ≡ o.0
    pub alone : (o : ObjId) → reaped_by x ≡ Some o → came_with x ≡ []
    pub few : is_request x ≡ false → length (came_with x) ≤ 1

-- ---- the law

-- so does each item of a control run
abbrev pub ItemsBring : (N S : Type 0) → Type 0
ItemsBring N S = (io : ℕ) (items : List (Item N S)) (x : Item N S) → IsControlRun (begun io) items → FitsItem (after_all items (begun io)) x → ComesBy (after_all items (begun io)) x
