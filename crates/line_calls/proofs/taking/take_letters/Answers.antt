use Rattle.std.proofs.Common.{Bool, subst, arith}
use Rattle.line_calls.specs.Lines.{TakesOrNot}
use Rattle.line_calls.proofs.StepLemmas.{takes_on, takes_over, takes_full, takes_stop}
use Rattle.line_calls.proofs.taking.take_letters.Goals as goal

pub returns-in-Ok-false-clause-ok : goal.returns-in-Ok-false-clause-ok
returns-in-Ok-false-clause-ok g c =
    let t = c.each-test.true in
    takes_over g.M.OpenSteps.leads g.met.M.OpenSteps.led_none g.met.M.OpenSteps.led_more g.M.OpenSteps.as_open c.each._taken _ _ _ (omega (arith, t)) c.each.invariant.takes
    (subst (λ (b : Bool). TakesOrNot g.M.OpenSteps.leads g.M.OpenSteps.as_open b c.each.socket c.take_letter.new.socket) c.in-Ok-false.field-0-test c.in-Ok-false.ensures.ok)

pub returns-in-Err-clause-err : goal.returns-in-Err-clause-err
returns-in-Err-clause-err g c = takes_stop g.M.OpenSteps.leads g.met.M.OpenSteps.led_none g.met.M.OpenSteps.led_more g.M.OpenSteps.as_open c.each._taken _ _ _ c.each.invariant.takes c.in-Err.ensures.err

pub each-preserved : goal.each-preserved
each-preserved g c = record {
  takes = takes_on g.M.OpenSteps.leads g.met.M.OpenSteps.led_none g.met.M.OpenSteps.led_more g.M.OpenSteps.as_open c.each._taken _ _ _ c.each.invariant.takes
      (subst (λ (b : Bool). TakesOrNot g.M.OpenSteps.leads g.M.OpenSteps.as_open b c.each.socket c.take_letter.new.socket) c.in-Ok-true.field-0-test c.in-Ok-true.ensures.ok);
  whole = c.take_letter.ensures.whole;
  agrees = c.take_letter.ensures.agrees;
  may = c.take_letter.ensures.may;
}

pub returns-clause-ok : goal.returns-clause-ok
returns-clause-ok g c =
    let t = c.each-test.false in
    let e = c.each.auto._taken-end in
    takes_full g.M.OpenSteps.leads g.met.M.OpenSteps.led_none g.met.M.OpenSteps.led_more g.M.OpenSteps.as_open c.each._taken _ _ (omega (arith, t, e)) c.each.invariant.takes
