use Rattle.std.proofs.Common.{◌≡◌}
use Rattle.std.proofs.lemmas.List.Filters.{FiltersInPlace}
use Rattle.ctl_plane.specs.Past.{control_of}
use Rattle.control_laws.specs.Closed.{lives}
use Rattle.plain_desk.proofs.queue.keep_living.Given as goal

-- those so far that live stand in front
abbrev pub invariant-each : goal.invariant-each
invariant-each g l = record {
  living : FiltersInPlace (lives (control_of l.history)) l.fn.closed.items l.closed.items l.to l.from;
  spare : l.closed.spare ≡ l.fn.closed.spare;
}
