use Rattle.std.proofs.Common.{◌≡◌, ◌≤◌, ◌-◌, drop, take}
use Rattle.spec_run.specs.Journal.{rows_by}
use Rattle.ctl_plane.specs.Past.{control_of}
use Rattle.plain_core.specs.Settled.{row_in}
use Rattle.plain_core.proofs.pipes.all_rows.Given as goal

-- those of the pairs before this number
abbrev pub invariant-pairs : goal.invariant-pairs
invariant-pairs g l = record {
  first : 1 ≤ l.number;
  so_far : l.rows.items ≡ rows_by (row_in (control_of l.desk.past) l.drops) 1 (take (l.number - 1) (drop 1 (control_of l.desk.past).rows.pairs));
}
