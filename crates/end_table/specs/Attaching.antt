-- An end is attached, or its attachment is undone (own choice, after libzmq's `socket_base_t`).
use Rattle.std.specs.Prelude.{◌≡◌, ◌<◌, ◌++◌, ℕ, Bool, true, false, [], ◌∷◌, Some, None, slice_set, vec_len, vec_capacity}
use Rattle.zq_base.specs.declared.ids.EndId.{EndId}
use Rattle.end_table.specs.declared.row.EndRow.{EndRow}
use Rattle.desk.specs.declared.halves.Halves.{Halves}
use Rattle.spec_control.specs.declared.end.EndState.TheVariants.{Active}
use Rattle.end_table.specs.declared.table.Place.{Place}
use Rattle.end_table.specs.declared.table.EndTable.{EndTable}
use Rattle.end_table.specs.Places.{place_at}

-- an end at its attachment, which writes and reads the pipes of these names, and is a peer or none
abbrev pub new_place : {N I : Type 0} → EndId → (written read : N) → Bool → Place N I
new_place e written read peer = record {
  end = e;
  written = written;
  read = read;
  state = Active;
  held = true;
  writes = true;
  sealed = false;
  met = false;
  peer = peer;
  dropped = 0;
  input = None;
}

module _ {O I : Type 0} where
  -- the row of an end at its attachment, with its halves
  abbrev pub new_row : EndId → Halves O I → EndRow O I
  new_row e halves = record { end = e; writable = true; out = halves.out; input = halves.input }

  abbrev pub halves_of : EndRow O I → Halves O I
  halves_of row = record { out = row.out; input = row.input }

module _ {N O I : Type 0} where
  -- the ends are as they were
  pub record Unchanged (old new : EndTable N O I) : Type 0 where
    pub rows : new.rows.items ≡ old.rows.items
    pub places : new.places.items ≡ old.places.items
    pub settled : new.settled.items ≡ old.settled.items

  -- there is room for one end more
  pub record HasRoom (t : EndTable N O I) : Type 0 where
    pub rows : vec_len t.rows < vec_capacity t.rows
    pub places : vec_len t.places < vec_capacity t.places

  -- the end stands behind those before it, with halves of the pipes of these names
  abbrev pub Attached : EndId → (written read : N) → (peer : Bool) → (old new : EndTable N O I) → Type 0
  Attached e written read peer old new = new.places.items ≡ old.places.items ++ new_place e written read peer ∷ []

  -- the halves of the end at a place, of the pipes of these names, were given back, and it is gone
  pub record TakenBack (k : ℕ) (written read : N) (old new : EndTable N O I) : Type 0 where
    pub place : Place N I
    pub there : place_at old.places.items k ≡ Some place
    pub written_is : place.written ≡ written
    pub read_is : place.read ≡ read
    pub now : new.places.items ≡ slice_set old.places.items k (record place { held = false; writes = false })
