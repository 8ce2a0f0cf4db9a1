use Rattle.std.proofs.Common.{◌≡◌, ◌++◌, map, take}
use Rattle.closed_ends.specs.Finding.{came_given}
use Rattle.closed_ends.proofs.sockets.note_came.Given as goal

-- those before the place were noted
abbrev pub invariant-each : goal.invariant-each
invariant-each g l = record {
  so_far : l.came.items ≡ l.fn.came.items ++ map (came_given g.P.Pipes.known.in_name) (take l.place l.ends.items);
}
