use Rattle.std.proofs.Common.{◌≤◌, ◌-◌, drop, take}
use Rattle.ctl_plane.specs.Past.{control_of}
use Rattle.plain_core.specs.Dropped.{CountsTold}
use Rattle.plain_core.proofs.drops.note_drops.Given as goal

-- those before the place are counted
abbrev pub invariant-skips : goal.invariant-skips
invariant-skips g l = record {
  first : l.before ≤ l.place;
  so_far : CountsTold (control_of l.desk.past) l.object.0 (take (l.place - l.before) (drop l.before l.told)) l.fn.drops.items l.drops.items;
}
