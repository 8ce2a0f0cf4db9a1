use Rattle.std.proofs.Common.{◌≡◌, ◌-◌, ◌++◌, length, drop}
use Rattle.line_socket.specs.Readers.{readers_in}
use Rattle.line_socket.proofs.readers.reading_ends.Given as goal

-- those before the place are noted
abbrev pub invariant-each : goal.invariant-each
invariant-each g l = readers_in l.places ≡ l.ends.items ++ readers_in (drop l.place l.places)

abbrev pub decreases-each : goal.decreases-each
decreases-each g l = length l.places - l.place
