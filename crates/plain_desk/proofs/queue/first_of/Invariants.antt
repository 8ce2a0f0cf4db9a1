use Rattle.std.specs.Prelude.{◌≡◌, None, find, take}
use Rattle.ctl_plane.specs.Past.{control_of}
use Rattle.control_laws.specs.Closed.{waits}
use Rattle.plain_desk.proofs.queue.first_of.Given as goal

-- nothing waits for those so far
abbrev pub invariant-each : goal.invariant-each
invariant-each g l = find (waits (control_of l.history)) (take l.place l.closed) ≡ None
