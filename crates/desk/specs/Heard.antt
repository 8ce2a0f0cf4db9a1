-- What the holder of an object is told of it in an event, read off the event and the control states before it and behind it (own choice, after libzmq's `own_t`).
use Rattle.std.specs.Prelude.{◌≡◌, ◌==◌, ◌&&◌, ◌++◌, ◌∷◌, [], ℕ, Bool, not, List, if◌then◌else◌}
use Rattle.zq_base.specs.declared.ids.ObjId.{ObjId}
use Rattle.zq_base.specs.declared.kind.Kind.{Kind}
use Rattle.spec_control.specs.declared.letter.Word.{Word}
use Rattle.spec_control.specs.declared.letter.Word.TheVariants.{Own, Plug, TermReq, Term, TermAck, PipeBind, PipeTerm, PipeTermAck, Stop, Reap}
use Rattle.spec_control.specs.declared.request.Req.{Req}
use Rattle.spec_control.specs.declared.request.Req.TheVariants.{Socket as MakeSocket, AskTerm, Bind, Connect, Unbind, Disconnect, Close, Accepted, Shaken, AskEnd, AskOver, OutputOver}
use Rattle.spec_control.specs.declared.entry.Did.{Did}
use Rattle.spec_control.specs.declared.entry.Did.TheVariants.{Asked, Delivered, Delimited}
use Rattle.spec_control.specs.Stage.{has_ended}
use Rattle.spec_control.specs.Row.{Row}
use Rattle.spec_control.specs.Rows.{Rows, obj}
use Rattle.spec_control.specs.After.{kind_of, owner_or_root}
use Rattle.spec_control.specs.Control.{Control}
use Rattle.desk.specs.declared.notice.Notice.{Notice}
use Rattle.desk.specs.declared.notice.Notice.TheVariants as notice
use Rattle.desk.specs.Holding.{Holding, HearsNone, HearsMore}

-- of the root nothing is told, which nobody has
abbrev pub unless_root : ObjId → List Notice → List Notice
unless_root o ns = if o.0 == 0 then [] else ns

-- an object has ended or not
abbrev pub over_if : ObjId → (ended : Bool) → List Notice
over_if o ended = if ended then unless_root o (notice.Over o ∷ []) else []

-- it ends between two states of its row
abbrev pub ends_between : (was now : Row) → Bool
ends_between was now = has_ended now.stage && not (has_ended was.stage)

abbrev pub over_in : ObjId → (before now : Control) → List Notice
over_in o before now = over_if o (ends_between (obj before.rows o.0) (obj now.rows o.0))

-- it processed its Term, and has ended or not
abbrev pub term_with : ObjId → (ended : Bool) → List Notice
term_with o ended = unless_root o (notice.Term o ∷ []) ++ over_if o ended

-- a listener or a session is of the kind of its socket
abbrev pub kind_by : Rows → ℕ → Kind
kind_by rows o = kind_of (obj rows (owner_or_root (obj rows o).owner)).kind

-- and comes with that kind and its own options
abbrev pub plug_by : ObjId → Rows → List Notice
plug_by o rows = notice.Plug o (kind_by rows o.0) (obj rows o.0).options ∷ []

-- by a command: a Plug, a Stop, a Term, and the end of the addressee, by the commands at which an object tries to end
abbrev pub heard_by : ObjId → Word → (before now : Control) → List Notice
heard_by to (Own child) before now = []
heard_by to (Plug end) before now = plug_by to before.rows
heard_by to (TermReq child) before now = []
heard_by to Term before now = term_with to (ends_between (obj before.rows to.0) (obj now.rows to.0))
heard_by to (TermAck child) before now = over_in to before now
heard_by to (PipeBind e peer) before now = []
heard_by to (PipeTerm e) before now = []
heard_by to (PipeTermAck e) before now = over_in to before now
heard_by to Stop before now = notice.Stop to ∷ []
heard_by to (Reap socket) before now = []

-- and by a request: a session whose output is over may end, and so may the root, of which nothing is told
abbrev pub heard_at : Req → (before now : Control) → List Notice
heard_at (MakeSocket kind options) before now = []
heard_at AskTerm before now = []
heard_at (Bind o at) before now = []
heard_at (Connect o at) before now = []
heard_at (Unbind o at) before now = []
heard_at (Disconnect o at) before now = []
heard_at (Close o) before now = []
heard_at (Accepted o) before now = []
heard_at (Shaken o peer) before now = []
heard_at (AskEnd e reason) before now = []
heard_at (AskOver o) before now = []
heard_at (OutputOver o) before now = over_in o before now

module _ {N S : Type 0} where
  -- in an event
  abbrev pub heard_in : Did N S → (before now : Control) → List Notice
  heard_in (Asked req reply a) before now = heard_at req before now
  heard_in (Delivered slot letter a) before now = heard_by letter.to letter.word before now
  heard_in (Delimited e a) before now = []

  -- a holder heard what the event tells that is one more, and nothing where there is none
  pub record HearsOnce (before now : List (Did N S)) (c d : Control) (old new : Holding N) : Type 0 where
    pub one : (did : Did N S) → now ≡ before ++ did ∷ [] → HearsMore (heard_in did c d) old new
    pub none : now ≡ before → HearsNone old new
