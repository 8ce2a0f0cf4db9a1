use Rattle.line_calls.proofs.StepLemmas.{TakesSoFar}
use Rattle.line_calls.proofs.taking.take_letters.Given as goal

-- so many letters were taken
abbrev pub invariant-each : goal.invariant-each
invariant-each g l = record {
  takes : TakesSoFar g.M.OpenSteps.leads g.met.M.OpenSteps.led_none g.met.M.OpenSteps.led_more g.M.OpenSteps.as_open l._taken l.fn.socket l.socket;
  whole : g.M.OpenSteps.whole l.socket;
  agrees : g.M.OpenSteps.agrees l.socket;
  may : g.M.OpenSteps.may_take l.socket;
}
