-- The pairs that a bind draws for the connects that wait for its name, one after the other (own choice, after zmq_inproc(7)).
use Rattle.std.specs.Prelude.{◌≡◌, ◌≤◌, ◌+◌, ◌++◌, ◌∷◌, [], ℕ, true, false, List, Option, Some, All}
use Rattle.std.specs.VecDeque.{deque_len, deque_capacity}
use Rattle.zq_base.specs.declared.ids.EndId.{EndId}
use Rattle.spec_control.specs.declared.entry.Joining.{Joining}
use Rattle.spec_control.specs.declared.entry.PipeName.{PipeName}
use Rattle.spec_control.specs.Place.{Unmade}
use Rattle.spec_control.specs.Rows.{PairRow, obj}
use Rattle.spec_control.specs.Control.{Control, end_of}
use Rattle.spec_control.specs.Held.{Held}
use Rattle.ctl_state.specs.declared.state.State.{State}
use Rattle.ctl_moves.specs.declared.joining_ends.Names.{Names}
use Rattle.ctl_moves.specs.JoinNoting.{HasRoomFor, joins_named, pipes_named}
use Rattle.ctl_moves.specs.Room.{with_drawn}
use Rattle.zq_base.specs.declared.ids.PairId.{PairId}
use Rattle.ctl_moves.specs.declared.owners.Owners.{Owners}
use Rattle.ctl_moves.specs.declared.batch.Drawn.{Drawn}
use Rattle.ctl_moves.specs.declared.batch.Batch.{Batch}
use Rattle.ctl_moves.specs.declared.first.FirstMade.{FirstMade}

-- pairs more of which only the numbers were drawn, behind those that there are
abbrev pub behind : List PairRow → Control → Control
behind rows c = record c { rows = record c.rows { pairs = c.rows.pairs ++ rows } }

module _ {N O I : Type 0} where
  -- so many pairs more may be drawn without memory for what is noted of them
  pub record FitsMore (n : ℕ) (b : Batch N O I) : Type 0 where
    pub drawn : deque_len b.drawn + n ≤ deque_capacity b.drawn
    pub notes : HasRoomFor n b.notes

  -- the pair whose first end was made so
  abbrev pub drawn_with : Owners → PairId → FirstMade N O I → Drawn N O I
  drawn_with o pair made = record { o = o; pair = pair; identity = made.said.identity; answer = made.end.answer; other = made.end.other }

  -- the binding socket's end
  abbrev pub first_of : Drawn N O I → EndId
  first_of d = end_of d.pair.0 false

  -- of such pairs, the last first
  abbrev pub drawn_ends : List (Drawn N O I) → List EndId
  drawn_ends [] = []
  drawn_ends (d ∷ ds) = drawn_ends ds ++ first_of d ∷ []

  -- the names of its pipes, for its owner: it writes what the other end reads
  abbrev pub names_for : Drawn N O I → Names N
  names_for d = record { written = d.other.read; read = d.other.written }

  -- the end at its holder, and what is noted of the pair
  abbrev pub held_of : Drawn N O I → Held N
  held_of d = record { end = first_of d; written = d.other.read; read = d.other.written }

  abbrev pub joins_of : Control → Drawn N O I → Joining N
  joins_of c d = joins_named (first_of d) (obj c.rows d.o.last.0).options.id d.answer (names_for d)

  abbrev pub opened_of : Drawn N O I → List (PipeName N)
  opened_of d = pipes_named (first_of d) (names_for d)

  -- the pair of which the number was drawn: end a is the connecting socket's
  abbrev pub row_of : Drawn N O I → PairRow
  row_of d = record { a_owner = d.o.last.0; b_owner = d.o.first.0; a = Unmade; b = Unmade }

  -- the numbers go on from this one
  abbrev pub AreNumbered : ℕ → List (Drawn N O I) → Type 0
  AreNumbered n [] = Unit {0}
  AreNumbered n (d ∷ ds) = (d.pair.0 ≡ n) × AreNumbered (n + 1) ds

  -- what is kept, with these pairs drawn and all their room
  abbrev pub drawn_all : {L : Type 0} → List (Drawn N O I) → State L → State L
  drawn_all [] s = s
  drawn_all (d ∷ ds) s = drawn_all ds (with_drawn false d.o s)

  -- the pipes of the pairs have these names
  abbrev pub AreNames : (EndId → Option N) → List (Drawn N O I) → Type 0
  AreNames names ds = All (λ d. (names (end_of d.pair.0 true) ≡ Some d.other.written) × (names (first_of d) ≡ Some d.other.read)) ds
