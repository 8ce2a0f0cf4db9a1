use Rattle.std.proofs.Common.{List, subst}
use Rattle.zq_base.specs.declared.ids.EndId.{EndId}
use Rattle.line_calls.specs.Lines.{LooksAll}
use Rattle.line_calls.proofs.StepLemmas.{some_more, pumps_all}
use Rattle.line_calls.proofs.pumping.pump.Goals as goal

pub returns-in-Ok-pump_kind-clause-ok : goal.returns-in-Ok-pump_kind-clause-ok
returns-in-Ok-pump_kind-clause-ok g c =
    let s = c.pump_kind.new.self in
    pumps_all g.M.OpenSteps.leads g.met.M.OpenSteps.led_none g.met.M.OpenSteps.led_more g.M.OpenSteps.as_open _ _ _ _ c.in-Ok.ensures.ok c.in-Ok-pump_kind.ensures.ok
    (subst (λ (l : List EndId). LooksAll g.M.OpenSteps.leads g.M.OpenSteps.as_open l s c.look_fronts.new.socket) (g.met.M.OpenSteps.readers s c.pump_kind.ensures.agrees) c.look_fronts.ensures.looks)

pub returns-in-Err-pump_kind-clause-err : goal.returns-in-Err-pump_kind-clause-err
returns-in-Err-pump_kind-clause-err g c =
    let t = c.in-Ok.ensures.ok in
    some_more g.M.OpenSteps.leads g.met.M.OpenSteps.led_none g.met.M.OpenSteps.led_more _ _ _ _ t.passes.led c.in-Err-pump_kind.ensures.err
