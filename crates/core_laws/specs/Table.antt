-- How many messages were dropped of each pipe, by a table at the places of the ends that read (own choice).
use Rattle.std.specs.Prelude.{◌+◌, ◌*◌, ℕ, Bool, true, false, List, slice_index_or}
use Rattle.zq_base.specs.Ends.{PipeId, other_end}
use Rattle.zq_base.specs.declared.ids.EndId.{EndId}

-- the place of an end: those of a pair stand side by side
abbrev pub side_place : Bool → ℕ
side_place true = 0
side_place false = 1

abbrev pub place_in : EndId → ℕ
place_in e = 2 * e.pair.0 + side_place e.a

-- how many messages were dropped of a pipe
abbrev pub drops_in : List ℕ → PipeId → ℕ
drops_in drops p = slice_index_or drops (place_in (other_end p)) 0
