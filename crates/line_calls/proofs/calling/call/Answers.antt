use Rattle.std.proofs.lemmas.Result.{IfOk-weaker}
use Rattle.zq_world.specs.Way.{AsksOpen}
use Rattle.line_calls.specs.Steps.{CallsSo}
use Rattle.line_calls.specs.Lines.{CallsLine}
use Rattle.line_calls.proofs.StepLemmas.{some_more}
use Rattle.line_calls.proofs.CallLemmas.{err_more, calls_line}
use Rattle.line_calls.proofs.calling.call.Goals as goal

pub returns-in-Ok-clause-ok : goal.returns-in-Ok-clause-ok
returns-in-Ok-clause-ok g c =
    let x = c.ask_line in
    IfOk-weaker x.result (λ said. CallsSo g.M.OpenSteps.leads g.M.OpenSteps.as_open g.M.OpenSteps.moments (AsksOpen c.args.line.now) said c.args.told.now.items x.new.told.items c.pump.new.socket x.new.socket)
    (λ said. CallsLine g.M.OpenSteps.leads g.M.OpenSteps.as_open c.args.line.now said c.args.told.now.items x.new.told.items c.args.socket.now x.new.socket)
    (λ said s. calls_line g.M.OpenSteps.leads g.met.M.OpenSteps.led_more g.M.OpenSteps.as_open g.M.OpenSteps.moments g.met.M.OpenSteps.led_moments c.args.line.now said c.args.told.now.items x.new.told.items c.args.socket.now c.pump.new.socket x.new.socket c.in-Ok.ensures.ok s)
    x.ensures.ok

pub returns-in-Ok-clause-err : goal.returns-in-Ok-clause-err
returns-in-Ok-clause-err g c =
    let p = c.in-Ok.ensures.ok in
    err_more c.ask_line.result (some_more g.M.OpenSteps.leads g.met.M.OpenSteps.led_none g.met.M.OpenSteps.led_more p.acts c.args.socket.now c.pump.new.socket c.ask_line.new.socket p.led) c.ask_line.ensures.err

pub pump-requires-clause-agrees : goal.pump-requires-clause-agrees
pump-requires-clause-agrees g c = c.requires.agrees

pub pump-requires-clause-may : goal.pump-requires-clause-may
pump-requires-clause-may g c = c.requires.may

pub pump-requires-clause-whole : goal.pump-requires-clause-whole
pump-requires-clause-whole g c = c.requires.whole

pub ask_line-requires-clause-agrees : goal.ask_line-requires-clause-agrees
ask_line-requires-clause-agrees g c = c.pump.ensures.agrees

pub ask_line-requires-clause-allowed : goal.ask_line-requires-clause-allowed
ask_line-requires-clause-allowed g c = c.requires.allowed

pub ask_line-requires-clause-asks : goal.ask_line-requires-clause-asks
ask_line-requires-clause-asks g c = c.requires.asks

pub ask_line-requires-clause-whole : goal.ask_line-requires-clause-whole
ask_line-requires-clause-whole g c = c.in-Ok.ensures.whole

pub returns-in-Ok-clause-agrees : goal.returns-in-Ok-clause-agrees
returns-in-Ok-clause-agrees g c = c.ask_line.ensures.agrees

pub returns-in-Ok-clause-whole : goal.returns-in-Ok-clause-whole
returns-in-Ok-clause-whole g c = c.ask_line.ensures.whole

pub returns-in-Err-clause-agrees : goal.returns-in-Err-clause-agrees
returns-in-Err-clause-agrees g c = c.pump.ensures.agrees

pub returns-in-Err-clause-err : goal.returns-in-Err-clause-err
returns-in-Err-clause-err g c = c.in-Err.ensures.err
