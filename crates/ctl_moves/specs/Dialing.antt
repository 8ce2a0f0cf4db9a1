-- A socket connects over tcp: it holds the address with a session on an I/O worker and their pair (zmq_connect(3), zmq_tcp(7)).
use Rattle.std.specs.Prelude.{◌≡◌, ◌≤◌, ◌<◌, ◌+◌, ◌^◌, ◌==◌, ◌++◌, ◌∷◌, [], ℕ, true, false, cond, Option, Some, length}
use Rattle.zq_base.specs.declared.attached.Attached.{Attached}
use Rattle.zq_base.specs.declared.endpoint.Address.{Address}
use Rattle.zq_base.specs.declared.endpoint.Endpoint.TheVariants.{Tcp}
use Rattle.zq_base.specs.declared.ids.EndId.{EndId}
use Rattle.zq_base.specs.declared.ids.ObjId.{ObjId}
use Rattle.zq_base.specs.declared.ids.PairId.{PairId}
use Rattle.mailbox.specs.Mail.{no_mail, with_spare}
use Rattle.spec_control.specs.declared.letter.Word.TheVariants.{Own, Plug}
use Rattle.spec_control.specs.Hold.{Joined as IsJoined}
use Rattle.spec_control.specs.Place.{Unmade, At}
use Rattle.spec_control.specs.Stage.{was_asked}
use Rattle.spec_control.specs.Rows.{obj}
use Rattle.spec_control.specs.After.{session_row, with_hold}
use Rattle.spec_control.specs.Control.{Control, draws, end_of, greet, makes, next_object, next_pair, open_pair, place_of, put}
use Rattle.desk.specs.declared.load.Load.{Load}
use Rattle.desk.specs.Holding.{HearsNone, Holding, JoinsBy, MayRefuse}
use Rattle.desk.specs.Lent.{HasAll}
use Rattle.desk.specs.Making.{outward}
use Rattle.desk.specs.Turns.{TurnsBy, turn_at}
use Rattle.ctl_state.specs.declared.detail.Made.{Made}
use Rattle.ctl_state.specs.declared.state.State.{State}
use Rattle.ctl_state.specs.Listed.{with_room}
use Rattle.ctl_state.specs.Lists.{belongings_at, with_ends}
use Rattle.ctl_state.specs.Objects.{row_made, with_roomy}
use Rattle.ctl_state.specs.Pairs.{entry_drawn}
use Rattle.ctl_state.specs.Parts.{on_boxes, on_lists, on_objects, on_pairs}
use Rattle.ctl_state.specs.Stands.{Stands, Updates}
use Rattle.ctl_moves.specs.declared.joining_ends.Names.{Names}
use Rattle.ctl_moves.specs.declared.notes.Notes.{Notes}
use Rattle.ctl_moves.specs.declared.owners.Owners.{Owners}
use Rattle.ctl_moves.specs.Joined.{Gets}
use Rattle.ctl_moves.specs.JoinNoting.{joins_named, pipes_named}
use Rattle.ctl_moves.specs.Listening.{TakesServed, with_box}
use Rattle.ctl_moves.specs.Papers.{HasMarks}
use Rattle.ctl_moves.specs.Room.{with_both}
use Rattle.ctl_moves.specs.Serving.{AreServed, HaveSeats, with_served}
use Rattle.ctl_moves.specs.Turning.{PutsLoaded}

module _ {L : Type 0} where
  -- all room that a connect over tcp takes before its session is made: for the Own and the Plug, two commands about the session for each, two about the pair, a hold, and the socket's end
  abbrev pub with_dial_room : Owners → State L → State L
  with_dial_room o s = on_lists (with_ends (with_room 1) o.first.0) (with_served 5 4 o s)

  -- and with the pair's number drawn: end a is the socket's
  abbrev pub with_dialed : Owners → State L → State L
  with_dialed o s = on_pairs (λ es. es ++ entry_drawn o.first o.last ∷ []) (with_dial_room o s)

  -- the room was kept
  pub record KeepsDialRoom (s : State L) (o : Owners) : Type 0 where
    pub before : State L
    pub seats : HaveSeats before o
    pub is : s ≡ with_dial_room o before

  -- and the number was drawn
  pub record HasDialed (s : State L) (o : Owners) : Type 0 where
    pub before : State L
    pub seats : HaveSeats before o
    pub is : s ≡ with_dialed o before

  -- a session was made, with room for its end
  pub record MakesSession (socket : ObjId) (made : Made) (child : ObjId) (s t : State L) : Type 0 where
    pub number : child.0 ≡ length s.objects.tree
    pub even : length s.objects.lists ≡ length s.objects.tree
    pub stands : Updates (makes (row_made socket made)) s t
    pub next : t ≡ on_objects (with_roomy 1 socket made) (on_boxes (λ b. b ++ with_spare 0 no_mail ∷ []) s)

  -- the socket's end may be made with pipes that hold what its own marks say
  pub record MayMakeOut (s : State L) (o : Owners) (may_make : EndId → ℕ → ℕ → Type 0) : Type 0 where
    pub control : Control
    pub stands : Stands s control
    pub marks : HasMarks (obj control.rows o.first.0)
    pub makes : let made = outward (obj control.rows o.first.0).options (end_of (length s.pairs) true) in may_make made.end made.written made.read

-- the control state once the connecting socket has its session
abbrev pub dialed_now : Control → (socket child : ObjId) → Address → ℕ → Attached → Control
dialed_now c socket child at k answer =
    greet answer (end_of k true) (open_pair (end_of k true) (Plug (Some (end_of k false)))
    (put socket.0 (Own child) (draws socket.0 child.0 (makes (session_row socket.0 c) (with_hold socket.0 (IsJoined (Tcp at) k (Some child.0)) c)))))

module _ {N O I : Type 0} where
  -- a socket that was not asked, whose holder is lent and has what the control state says, may get a session
  pub record MayDial (s : State (Load N O I)) (h : Holding N) (o : Owners) : Type 0 where
    pub control : Control
    pub names : EndId → Option N
    pub stands : Stands s control
    pub has : HasAll names control h
    pub lent : h.holds o.first.0 ≡ true
    pub served : AreServed control o.first o
    pub takes : TakesServed s control o.first
    pub unasked : was_asked (obj control.rows o.first.0).stage ≡ false
    pub marks : HasMarks (obj control.rows o.first.0)
    pub few_pairs : length control.rows.pairs + 1 < 2 ^ 30

  -- the socket holds the address with its session and their pair, whose first end is the socket's and is noted with the names that its holder has; the session's Own and Plug were put
  pub record Dials (out_name : O → N) (in_name : I → N) (c : Control) (o : Owners) (at : Address) (child : ObjId) (pair : PairId) (notes : Notes N) (s t : State (Load N O I)) (h k : Holding N) : Type 0 where
    pub child_is : child.0 ≡ next_object c
    pub number : pair.0 ≡ next_pair c
    pub answer : Attached
    pub told : Names N
    pub refuses : MayRefuse (h.kind o.first.0) answer
    pub stands : Stands t (dialed_now c o.first child at pair.0 answer)
    pub joined : notes.joined.items ≡ joins_named (end_of pair.0 true) [] answer told ∷ []
    pub opened : notes.opened.items ≡ pipes_named (end_of pair.0 true) told
    pub gets : Gets (next_pair c) o.first.0 (record { end = end_of pair.0 true; written = told.written; read = told.read } ∷ []) h k
    pub puts : (names : EndId → Option N) → names (end_of pair.0 false) ≡ Some told.read → names (end_of pair.0 true) ≡ Some told.written → PutsLoaded out_name in_name names (with_box (with_both 5 4 o s)).boxes t.boxes
    pub mine : place_of (dialed_now c o.first child at pair.0 answer) (end_of pair.0 true) ≡ At (k.state (end_of pair.0 true))
    pub turned : TurnsBy (turn_at (end_of pair.0 true) Unmade (place_of (dialed_now c o.first child at pair.0 answer) (end_of pair.0 true))) h k
    pub came : JoinsBy notes.joined.items h k
    pub heard : HearsNone h k
    -- the session's end fits into its list
    pub places : (i : ℕ) → (belongings_at s.objects.lists i).ends.spare + cond (child.0 == i) 1 0 ≤ (belongings_at t.objects.lists i).ends.spare
