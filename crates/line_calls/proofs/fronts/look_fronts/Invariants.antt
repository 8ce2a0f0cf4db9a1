use Rattle.std.proofs.Common.{length}
use Rattle.line_calls.proofs.StepLemmas.{LooksSoFar}
use Rattle.line_calls.proofs.fronts.look_fronts.Given as goal

-- the fronts of the ends before the place were looked at
abbrev pub invariant-each : goal.invariant-each
invariant-each g l = record {
  looks : LooksSoFar g.M.OpenSteps.leads g.met.M.OpenSteps.led_none g.met.M.OpenSteps.led_more g.M.OpenSteps.as_open (g.M.OpenSteps.reading l.fn.socket 0) (g.M.OpenSteps.reading l.socket l.place) l.fn.socket l.socket;
  whole : g.M.OpenSteps.whole l.socket;
  agrees : g.M.OpenSteps.agrees l.socket;
}

abbrev pub decreases-each : goal.decreases-each
decreases-each g l = length (g.M.OpenSteps.reading l.socket l.place)
