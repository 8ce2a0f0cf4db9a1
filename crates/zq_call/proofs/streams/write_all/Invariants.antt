use Rattle.std.proofs.Common.{◌≤◌, ◌-◌, length, take}
use Rattle.zq_outer.specs.Sink.{Appends}
use Rattle.zq_call.proofs.streams.write_all.Given as goal

-- the sink took a front of the text
abbrev pub invariant-writes : goal.invariant-writes
invariant-writes g l = record {
  front : Appends (g.K.Sink.taken l.fn.sink) (take l.at l.text) (g.K.Sink.taken l.sink);
  within : l.at ≤ length l.text;
  faults : g.K.Sink.faults l.fn.sink ≤ g.K.Sink.faults l.sink;
}

abbrev pub decreases-writes : goal.decreases-writes
decreases-writes g l = length l.text - l.at
