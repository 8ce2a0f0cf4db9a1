use Rattle.std.proofs.Common.{◌≡◌, map, take}
use Rattle.spec_run.specs.Journal.{line_of}
use Rattle.ctl_plane.specs.Past.{control_of}
use Rattle.plain_core.proofs.objects.lines_shown.Given as goal

-- those before the place
abbrev pub invariant-each : goal.invariant-each
invariant-each g l = record {
  so_far : l.lines.items ≡ map (line_of (control_of l.desk.past)) (take l.place l.objects);
}
