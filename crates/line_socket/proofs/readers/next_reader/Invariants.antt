use Rattle.std.proofs.Common.{◌≡◌, ◌-◌, length, drop}
use Rattle.line_socket.specs.Readers.{readers_in}
use Rattle.line_socket.proofs.readers.next_reader.Given as goal

-- no end before the place reads on
abbrev pub invariant-each : goal.invariant-each
invariant-each g l = readers_in (drop l.from l.places) ≡ readers_in (drop l.place l.places)

abbrev pub decreases-each : goal.decreases-each
decreases-each g l = length l.places - l.place
