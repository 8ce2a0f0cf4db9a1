-- An object processes its Term, with the holder of its ends (own choice, after libzmq's `own_t`).
use Rattle.std.specs.Prelude.{◌≡◌, ◌≢◌, ℕ, true, [], ◌∷◌, Option, length}
use Rattle.zq_base.specs.declared.ids.EndId.{EndId}
use Rattle.spec_control.specs.Place.{is_here}
use Rattle.spec_control.specs.Row.{TermComes, link_may}
use Rattle.spec_control.specs.Rows.{obj}
use Rattle.spec_control.specs.Control.{Control, link, ask_all, ends_of, tell_children, try_end, owner_of, place_of}
use Rattle.spec_control.specs.After.{term_reason, term_delay, without_names}
use Rattle.control_laws.specs.Move.{LinkMoves}
use Rattle.desk.specs.declared.load.Load.{Load}
use Rattle.desk.specs.Holding.{Holding}
use Rattle.desk.specs.Joins.{KeepsObjects}
use Rattle.desk.specs.Lent.{HasAll}
use Rattle.desk.specs.Output.{has_left}
use Rattle.ctl_state.specs.declared.state.State.{State}
use Rattle.ctl_state.specs.Stands.{Stands}
use Rattle.ctl_moves.specs.Turning.{PutsLoaded, TurnsOnce}
use Rattle.ctl_moves.specs.Asking.{HasRoomOver}

-- its names leave the book, its ends are asked, its noted children are told, and it ends if it can
abbrev pub names_left : ℕ → Control → Control
names_left at c = without_names at (link TermComes at c)

abbrev pub ends_asked : ℕ → Control → Control
ends_asked at c = ask_all (term_reason (obj c.rows at).kind) (term_delay (obj c.rows at)) (ends_of at (names_left at c)) (names_left at c)

abbrev pub children_told : ℕ → Control → Control
children_told at c = tell_children (length (ends_asked at c).rows.objects) at (ends_asked at c)

module _ {N O I : Type 0} where
  -- a Term came to an object with a holder that is lent, unless it is the root, which has no end
  pub record MayTerm (s : State (Load N O I)) (h : Holding N) (at : ℕ) : Type 0 where
    pub control : Control
    pub names : EndId → Option N
    pub stands : Stands s control
    pub has : HasAll names control h
    pub lent : at ≢ 0 → h.holds at ≡ true
    pub rootless : (e : EndId) → is_here (place_of control e) ≡ true → owner_of control e ≢ 0
    pub comes : link_may TermComes (obj control.rows at) ≡ true
    pub room : HasRoomOver (LinkMoves at TermComes ∷ []) control s

module _ {N O I : Type 0} (out_name : O → N) (in_name : I → N) where
  -- the state was changed so, with the holder, which was told of each change of its ends and lets no object go but one that ended, and commands were put; no end joined
  pub record Turns (names : EndId → Option N) (was now : Control) (s t : State (Load N O I)) (h k : Holding N) : Type 0 where
    pub stands : Stands t now
    pub has : HasAll names now k
    pub puts : PutsLoaded out_name in_name names s.boxes t.boxes
    pub lists : t.objects.lists ≡ s.objects.lists
    pub turned : TurnsOnce was now h k
    pub joined : k.joined ≡ h.joined
    pub objects : KeepsObjects was now h k

  -- the object has done what its Term asks of it; it does not end while it is a session that had output left
  abbrev pub Terms : (names : EndId → Option N) → Control → ℕ → (s t : State (Load N O I)) → (h k : Holding N) → Type 0
  Terms names c at s t h k = Turns names c (try_end at (has_left c at h) (children_told at c)) s t h k
