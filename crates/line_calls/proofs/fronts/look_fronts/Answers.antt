use Rattle.std.proofs.Common.{◌∷◌, sym, ap, ◌∙◌}
use Rattle.line_calls.proofs.StepLemmas.{looks_on}
use Rattle.line_calls.proofs.fronts.look_fronts.Goals as goal

pub each-preserved : goal.each-preserved
each-preserved g c = record {
  looks = looks_on g.M.OpenSteps.leads g.met.M.OpenSteps.led_none g.met.M.OpenSteps.led_more g.M.OpenSteps.as_open (g.M.OpenSteps.reading c.args.socket.now 0) _ _ c.in-Some.reader.end _ _ _
      (c.in-Some.ensures.1 ∙ c.in-Some.ensures.2 ∙ ap (λ l. c.in-Some.reader.end ∷ l) (sym c.look_front.ensures.behind)) c.each.invariant.looks c.look_front.ensures.looks;
  whole = c.look_front.ensures.whole;
  agrees = c.look_front.ensures.agrees;
}
