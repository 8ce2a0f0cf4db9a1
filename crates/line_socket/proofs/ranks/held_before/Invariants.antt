use Rattle.std.proofs.Common.{◌≡◌, ◌≤◌, ◌-◌, drop}
use Rattle.line_socket.specs.Readers.{held_places}
use Rattle.line_socket.proofs.ranks.held_before.Given as goal

-- so many of those before are held
abbrev pub invariant-each : goal.invariant-each
invariant-each g l = (l.many ≤ l.at) × (l.at ≤ l.place) × (drop l.many (held_places l.places) ≡ held_places (drop l.at l.places))

abbrev pub decreases-each : goal.decreases-each
decreases-each g l = l.place - l.at
