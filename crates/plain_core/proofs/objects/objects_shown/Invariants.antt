use Rattle.std.proofs.Common.{◌≡◌, map, take}
use Rattle.spec_run.specs.Journal.{object_shown}
use Rattle.ctl_plane.specs.Past.{control_of}
use Rattle.plain_core.proofs.objects.objects_shown.Given as goal

-- those of the first numbers
abbrev pub invariant-each : goal.invariant-each
invariant-each g l = record {
  so_far : l.rows.items ≡ map object_shown (take l.place (control_of l.desk.past).rows.objects);
}
