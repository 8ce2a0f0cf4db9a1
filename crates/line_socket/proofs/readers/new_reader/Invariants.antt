use Rattle.std.proofs.Common.{◌-◌, length, drop}
use Rattle.line_socket.specs.Readers.{readers_in, AreAmong}
use Rattle.line_socket.proofs.readers.new_reader.Given as goal

-- each end before the place that reads on is one of those before
abbrev pub invariant-each : goal.invariant-each
invariant-each g l = AreAmong l.before (readers_in (drop l.place l.places)) → AreAmong l.before (readers_in l.places)

abbrev pub decreases-each : goal.decreases-each
decreases-each g l = length l.places - l.place
