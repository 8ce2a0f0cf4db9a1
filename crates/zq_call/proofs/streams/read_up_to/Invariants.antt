use Rattle.std.proofs.Common.{◌≤◌, ◌-◌, vec_len}
use Rattle.zq_outer.specs.Source.{Consumes}
use Rattle.zq_call.proofs.streams.read_up_to.Given as goal

-- what was read so far came off the front of the source
abbrev pub invariant-reads : goal.invariant-reads
invariant-reads g l = record {
  consumed : Consumes (g.S.Source.left l.fn.source) l.octets.items (g.S.Source.left l.source);
  within : vec_len l.octets ≤ l.limit;
  faults : g.S.Source.faults l.fn.source ≤ g.S.Source.faults l.source;
  ends : g.S.Source.ends l.fn.source ≤ g.S.Source.ends l.source;
}

abbrev pub decreases-reads : goal.decreases-reads
decreases-reads g l = l.limit - vec_len l.octets
