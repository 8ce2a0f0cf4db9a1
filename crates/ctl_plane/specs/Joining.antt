-- Requests that make pairs, with the holder of the asking socket (zmq_connect(3), zmq_bind(3), zmq_inproc(7)).
use Rattle.std.specs.Prelude.{◌≡◌, ◌++◌, ℕ, true, false, Some, None, map}
use Rattle.zq_base.specs.declared.ids.ObjId.{ObjId}
use Rattle.spec_control.specs.declared.entry.Answered.{Answered}
use Rattle.spec_control.specs.declared.entry.Did.TheVariants.{Asked}
use Rattle.spec_control.specs.declared.request.Req.{Req}
use Rattle.spec_control.specs.declared.request.Reply.{Reply}
use Rattle.spec_control.specs.Row.{is_socket}
use Rattle.spec_control.specs.Rows.{obj}
use Rattle.spec_control.specs.After.{kind_of}
use Rattle.spec_control.specs.Control.{Control}
use Rattle.spec_control.specs.ControlRun.{IsOpenSocket}
use Rattle.spec_control.specs.Held.{held_as}
use Rattle.desk.specs.Holding.{Holding}
use Rattle.ctl_moves.specs.declared.notes.Notes.{Notes}
use Rattle.ctl_moves.specs.Papers.{HasMarks}
use Rattle.ctl_plane.specs.Past.{Past, with_event}

-- each socket has the marks that a socket may have
abbrev pub AllMarked : Control → Type 0
AllMarked c = (i : ℕ) → is_socket (obj c.rows i).kind ≡ true → HasMarks (obj c.rows i)

module _ {N : Type 0} where
  -- an open socket asks with the holder of its ends, whose kind is the socket's
  pub record Lends (c : Control) (i : ℕ) (h : Holding N) : Type 0 where
    pub socket : IsOpenSocket (obj c.rows i)
    pub lent : h.holds i ≡ true
    pub kind : h.kind i ≡ Some (kind_of (obj c.rows i).kind)
    pub marked : AllMarked c

  -- the holder is of the same objects, with their kinds, and says the same of their output
  pub record IsOfSame (h k : Holding N) : Type 0 where
    pub objects : (i : ℕ) → k.holds i ≡ h.holds i
    pub kinds : (i : ℕ) → k.kind i ≡ h.kind i
    pub output : (i : ℕ) → k.output_left i ≡ h.output_left i

  -- what a holder answered for pairs that were made
  pub record IsNoted {S : Type 0} (notes : Notes N) (a : Answered N S) : Type 0 where
    pub joined : a.joined ≡ notes.joined.items
    pub opened : a.opened ≡ notes.opened.items
    pub settled : a.settled ≡ None
    pub output : a.output_left ≡ false

module _ {G N S : Type 0} where
  -- a request was noted with its answer, and the ends that joined in it, with the names of their pipes, stand behind those that the holder had
  pub record NotesRequest (o : ObjId) (request : Req) (reply : Reply) (old new : Past G N S) (h k : Holding N) : Type 0 where
    pub answered : Answered N S
    pub step : new ≡ with_event (Asked request reply answered) old
    pub ends : k.ends o.0 ≡ h.ends o.0 ++ map held_as answered.joined

  -- a request was noted with its answer
  pub record NotesAnswered (request : Req) (reply : Reply) (old new : Past G N S) : Type 0 where
    pub answered : Answered N S
    pub step : new ≡ with_event (Asked request reply answered) old
