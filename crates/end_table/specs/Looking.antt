-- The front of the pipe that an end reads is looked at (own choice, after libzmq's `pipe_t::check_read`).
use Rattle.std.specs.Prelude.{◌≡◌, ℕ, Bool, true, [], ◌∷◌, Some, slice_set}
use Rattle.spec_pattern.specs.PipeStep.{read_through}
use Rattle.msg_pipe.specs.Known.{Known}
use Rattle.msg_pipe.specs.Told.{front_step}
use Rattle.msg_pipe.specs.declared.pipes.Front.{Front}
use Rattle.msg_pipe.specs.declared.pipes.Front.TheVariants.{Message, Empty, Delimiter}
use Rattle.end_table.specs.Rows.{table}
use Rattle.end_table.specs.Runs.{DoesAll}
use Rattle.end_table.specs.declared.table.Place.{Place}
use Rattle.end_table.specs.declared.table.EndTable.{EndTable}
use Rattle.end_table.specs.Places.{place_at}

-- whether the delimiter was met once this was found at the front
abbrev pub met_after : Front → Bool → Bool
met_after Message met = met
met_after Empty met = met
met_after Delimiter met = true

-- one look at the front of the pipe that the end at a place reads found this, and all else of the end and of the others is as it was
pub record LooksAt {S O I N : Type 0} (K : Known S O I N) (old_pipes new_pipes : S) (k : ℕ) (found : Front) (old new : EndTable N O I) : Type 0 where
  pub place : Place N I
  pub there : place_at old.places.items k ≡ Some place
  pub does : DoesAll K (table old_pipes old.rows.items) (front_step (read_through place.end) found ∷ []) (table new_pipes new.rows.items)
  pub now : new.places.items ≡ slice_set old.places.items k (record place { met = met_after found place.met })
