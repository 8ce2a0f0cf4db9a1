use Rattle.std.proofs.Common.{◌≡◌, take}
use Rattle.ctl_plane.specs.Enders.{enders_in}
use Rattle.ctl_plane.proofs.enders.note_all.Given as goal

-- those of the events so far
abbrev pub invariant-events : goal.invariant-events
invariant-events g l = record {
  so_far : l.objects.items ≡ enders_in (take l.did-index l.events);
}
