-- The rows of settled pipes, by a table of their counts and one of what was dropped of each (own choice).
use Rattle.std.specs.Prelude.{◌≡◌, ◌<◌, List, [], ◌∷◌, ℕ, Option, Some, None, slice_get, slice_index_or, slice_set}
use Rattle.std.specs.Option.{option_map}
use Rattle.zq_base.specs.declared.ids.Settled.{Settled}
use Rattle.zq_base.specs.Ends.{PipeId, other_end}
use Rattle.spec_control.specs.Control.{Control, Settlement, next_pair}
use Rattle.spec_run.specs.declared.journal.SettledRow.{SettledRow}
use Rattle.spec_run.specs.Fate.{is_heard_at}
use Rattle.spec_run.specs.OwnedRun.{settlement_of}
use Rattle.ctl_plane.specs.declared.settled.PipeCounts.{PipeCounts}
use Rattle.core_laws.specs.Drops.{row_dropped}
use Rattle.core_laws.specs.Table.{drops_in, place_in}

-- the counts are noted at the place of the end that read the pipe, unless it has some
abbrev pub noted_if : Option (Option Settled) → PipeCounts → List (Option Settled) → List (Option Settled)
noted_if None x t = t
noted_if (Some (Some old)) x t = t
noted_if (Some None) x t = slice_set t (place_in x.end) (Some x.counts)

abbrev pub noted : PipeCounts → List (Option Settled) → List (Option Settled)
noted x t = noted_if (slice_get t (place_in x.end)) x t

-- all of these, in order
abbrev pub noted_all : List PipeCounts → List (Option Settled) → List (Option Settled)
noted_all [] t = t
noted_all (x ∷ xs) t = noted_all xs (noted x t)

-- what is told of a settlement: the end that read the pipe, and its counts
abbrev pub counts_in : Settlement → PipeCounts
counts_in s = record { end = s.end; counts = s.counts }

-- the row of a pipe, where it was settled
abbrev pub row_in : Control → List ℕ → PipeId → Option SettledRow
row_in c drops p = option_map (λ s. row_dropped (is_heard_at c p) p (drops_in drops p) s) (settlement_of c p)

-- a table has the counts of each end that read a pipe, of the pairs that have their numbers
abbrev pub HasTable : Control → List (Option Settled) → Type 0
HasTable c t = (p : PipeId) → p.pair.0 < next_pair c → slice_index_or t (place_in (other_end p)) None ≡ option_map (λ s. s.counts) (settlement_of c p)
