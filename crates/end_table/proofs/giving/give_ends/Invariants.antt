use Rattle.std.proofs.Common.{◌≡◌}
use Rattle.std.specs.Prelude.{vec_capacity}
use Rattle.end_table.specs.Others.{Leaves}
use Rattle.end_table.proofs.GivingLemmas.{Giving}
use Rattle.end_table.proofs.giving.give_ends.Given as goal

-- the ends before the place were given
abbrev pub invariant-each : goal.invariant-each
invariant-each g l = record {
  so_far : Giving g.P.Pipes.known l.pipes l.fn.table.places.items l.place l.table.rows.items l.table.places.items l.given.items l.joined.items;
  given : vec_capacity l.given ≡ vec_capacity l.fn.given;
  joined : vec_capacity l.joined ≡ vec_capacity l.fn.joined;
  settled : l.table.settled ≡ l.fn.table.settled;
  others : Leaves g.P.Pipes.known l.pipes l.fn.table l.pipes l.table;
}
