-- What is noted of the pairs that a request makes (own choice).
use Rattle.std.specs.Prelude.{◌≤◌, ◌+◌, ◌*◌, ◌∷◌, [], ℕ, Bool, true, false, List}
use Rattle.std.specs.Vec.{vec_len, vec_capacity}
use Rattle.zq_base.specs.declared.ids.EndId.{EndId}
use Rattle.zq_base.specs.declared.attached.Attached.{Attached}
use Rattle.spec_control.specs.declared.entry.Joining.{Joining}
use Rattle.spec_control.specs.declared.entry.PipeName.{PipeName}
use Rattle.spec_control.specs.Control.{end_of}
use Rattle.ctl_moves.specs.declared.joining_ends.Names.{Names}
use Rattle.ctl_moves.specs.declared.notes.Notes.{Notes}

module _ {N : Type 0} where
  -- the name of the pipe that end a writes, and of the one that end b writes
  abbrev pub a_name : Bool → Names N → N
  a_name true names = names.written
  a_name false names = names.read

  abbrev pub b_name : Bool → Names N → N
  b_name true names = names.read
  b_name false names = names.written

  -- the pipes of a pair, by the ends that write them
  abbrev pub pipes_named : EndId → Names N → List (PipeName N)
  pipes_named first names =
      record { pipe = end_of first.pair.0 true; name = a_name first.a names } ∷ record { pipe = end_of first.pair.0 false; name = b_name first.a names } ∷ []

  -- an end that joins, with its peer's identity and the names of its pipes
  abbrev pub joins_named : EndId → List ℕ → Attached → Names N → Joining N
  joins_named first peer answer names = record { end = first; peer = peer; written = names.written; read = names.read; answer = answer; met = false }

  -- so many pairs may be noted without memory
  pub record HasRoomFor (n : ℕ) (notes : Notes N) : Type 0 where
    pub joined : vec_len notes.joined + n ≤ vec_capacity notes.joined
    pub opened : vec_len notes.opened + 2 * n ≤ vec_capacity notes.opened
