use Rattle.line_calls.proofs.StepLemmas.{takes_looked, takes_some}
use Rattle.line_calls.proofs.taking.take_letter.Goals as goal

pub returns-in-Ok-Letter-Some-clause-ok : goal.returns-in-Ok-Letter-Some-clause-ok
returns-in-Ok-Letter-Some-clause-ok g c =
    let x = c.in-Ok-Letter-Some in
    takes_looked g.M.OpenSteps.leads g.met.M.OpenSteps.led_none g.met.M.OpenSteps.led_more g.M.OpenSteps.as_open x.reader _ _ _
    (takes_some g.M.OpenSteps.leads g.met.M.OpenSteps.led_none g.met.M.OpenSteps.led_more g.M.OpenSteps.as_open x.field-0 x.field-0-0 x.reader _ _ x.field-0-is x.field-0-0-is x.ensures.ok)
    c.look_front.ensures.looks
