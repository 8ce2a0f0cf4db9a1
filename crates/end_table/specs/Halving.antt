-- What is done to the halves of an end at a place (own choice, after libzmq's `pipe_t`).
use Rattle.std.specs.Prelude.{◌≡◌, ◌+◌, ℕ, Bool, true, false, List, Some, None, slice_set}
use Rattle.zq_base.specs.declared.ids.Settled.{Settled}
use Rattle.spec_control.specs.declared.end.EndState.{EndState}
use Rattle.end_table.specs.declared.table.Place.{Place}
use Rattle.end_table.specs.declared.table.EndTable.{EndTable}
use Rattle.end_table.specs.Places.{place_at}

module _ {N I : Type 0} where
  -- an end that is held stands at the place
  pub record StandsAt (ps : List (Place N I)) (k : ℕ) : Type 0 where
    pub place : Place N I
    pub there : place_at ps k ≡ Some place
    pub held : place.held ≡ true

  -- with its writing half
  pub record WritesAt (ps : List (Place N I)) (k : ℕ) : Type 0 where
    pub place : Place N I
    pub there : place_at ps k ≡ Some place
    pub held : place.held ≡ true
    pub writes : place.writes ≡ true

  -- or without it, and reads the pipe of this name
  pub record ReadsAt (ps : List (Place N I)) (k : ℕ) (read : N) : Type 0 where
    pub place : Place N I
    pub there : place_at ps k ≡ Some place
    pub held : place.held ≡ true
    pub yielded : place.writes ≡ false
    pub pipe : place.read ≡ read

module _ {N O I : Type 0} where
  -- the end at a place is in this state now, and a peer of its socket's kind or none
  pub record StatedAt (k : ℕ) (state : EndState) (peer : Bool) (old new : EndTable N O I) : Type 0 where
    pub place : Place N I
    pub there : place_at old.places.items k ≡ Some place
    pub now : new.places.items ≡ slice_set old.places.items k (record place { state = state; peer = peer })

  -- it was sealed, and all else of it and of the others is as it was
  pub record SealedAt (k : ℕ) (old new : EndTable N O I) : Type 0 where
    pub place : Place N I
    pub there : place_at old.places.items k ≡ Some place
    pub now : new.places.items ≡ slice_set old.places.items k (record place { sealed = true })

  -- its writing half was given away, of the pipe of this name
  pub record YieldedAt (k : ℕ) (written : N) (old new : EndTable N O I) : Type 0 where
    pub place : Place N I
    pub input : I
    pub there : place_at old.places.items k ≡ Some place
    pub name_is : place.written ≡ written
    pub now : new.places.items ≡ slice_set old.places.items k (record place { writes = false; peer = false; input = Some input })

  -- its pipe was settled with these counts, and it is gone
  pub record SettledAt (k : ℕ) (counts : Settled) (old new : EndTable N O I) : Type 0 where
    pub place : Place N I
    pub there : place_at old.places.items k ≡ Some place
    pub sum : counts.sent ≡ counts.got + counts.rest
    pub read_out : place.met ≡ true → counts.rest ≡ 0
    pub now : new.places.items ≡ slice_set old.places.items k (record place { held = false; input = None })
