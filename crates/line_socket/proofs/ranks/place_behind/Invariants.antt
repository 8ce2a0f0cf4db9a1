use Rattle.std.proofs.Common.{◌≡◌, ◌-◌, drop, length}
use Rattle.line_socket.specs.Readers.{held_places}
use Rattle.line_socket.proofs.ranks.place_behind.Given as goal

-- behind so many more come those that are wanted
abbrev pub invariant-each : goal.invariant-each
invariant-each g l = drop l.left (held_places (drop l.at l.places)) ≡ drop l.many (held_places l.places)

abbrev pub decreases-each : goal.decreases-each
decreases-each g l = length l.places - l.at
