use Rattle.line_calls.proofs.StepLemmas.{looks_message, looks_empty, looks_end}
use Rattle.line_calls.proofs.fronts.look_front.Goals as goal

pub returns-in-Delimiter-clause-looks : goal.returns-in-Delimiter-clause-looks
returns-in-Delimiter-clause-looks g c =
    looks_end g.M.OpenSteps.leads g.met.M.OpenSteps.led_none g.met.M.OpenSteps.led_more g.M.OpenSteps.as_open c.args.reader.end _ _ _ c.in-Delimiter.ensures.looked c.meet.ensures.meets

pub returns-in-Message-clause-looks : goal.returns-in-Message-clause-looks
returns-in-Message-clause-looks g c = looks_message g.M.OpenSteps.leads g.met.M.OpenSteps.led_none g.met.M.OpenSteps.led_more g.M.OpenSteps.as_open c.args.reader.end _ _ c.in-Message.ensures.looked

pub returns-in-Empty-clause-looks : goal.returns-in-Empty-clause-looks
returns-in-Empty-clause-looks g c = looks_empty g.M.OpenSteps.leads g.met.M.OpenSteps.led_none g.met.M.OpenSteps.led_more g.M.OpenSteps.as_open c.args.reader.end _ _ c.in-Empty.ensures.looked
