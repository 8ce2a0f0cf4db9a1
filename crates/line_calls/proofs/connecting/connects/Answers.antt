use Rattle.std.proofs.Common.{Bool, List, sym, ap, ◌∙◌}
use Rattle.std.specs.Prelude.{if◌then◌else◌}
use Rattle.zq_base.specs.declared.ids.ObjId.{ObjId}
use Rattle.zq_base.specs.declared.endpoint.Endpoint.{Endpoint}
use Rattle.std.proofs.lemmas.Result.{IfOk-weaker}
use Rattle.spec_pattern.specs.declared.answers.Skip.{Skip}
use Rattle.spec_control.specs.declared.request.Req.TheVariants.{Connect}
use Rattle.spec_control.specs.Control.{id}
use Rattle.spec_run.specs.declared.answer.Answer.TheVariants as answer
use Rattle.spec_run.specs.declared.answer.Answer.{Answer}
use Rattle.spec_run.specs.SocketCall.{RequestsOnce, ConnectsCall}
use Rattle.line_calls.specs.Steps.{CallsSo}
use Rattle.line_calls.proofs.CallLemmas.{connects_to, connects_not, requested_as}
use Rattle.line_calls.proofs.connecting.connects.Goals as goal

-- what is said where the one or the other is ending
abbrev said_so : Bool → Answer
said_so ending = if ending then answer.Term else answer.NotSupported

pub returns-then-takes_connect-clause-ok : goal.returns-then-takes_connect-clause-ok
returns-then-takes_connect-clause-ok g c =
    let M = g.M.OpenSteps in
    let none = g.met.M.OpenSteps.led_none in
    let x = c.ask in
    let a = c.args.socket.now in
    let o = id (M.as_open a).object in
    let same = ap (λ (i : ObjId). Connect i c.in_ok-at.at) c.number.ensures ∙ ap (λ (at : Endpoint). Connect o at) c.in_ok-at.ensures in
    IfOk-weaker x.result (λ said. (told : List Skip) → CallsSo M.leads M.as_open M.moments (λ s t n. RequestsOnce (Connect (id s.object) c.args.to.now) s t n) said told told a x.new.self)
    (λ said. (told : List Skip) → CallsSo M.leads M.as_open M.moments (ConnectsCall c.args.to.now) said told told a x.new.self)
    (λ said s told. connects_to M.leads none M.as_open M.moments c.args.to.now said told a x.new.self (sym c.takes_connect.ensures ∙ c.if-takes_connect.true) (s told))
    (requested_as M.leads none M.as_open M.moments x.result _ (λ n. Connect (id n) c.args.to.now) a x.new.self same x.ensures.ok)

pub returns-then-is_ending-clause-ok : goal.returns-then-is_ending-clause-ok
returns-then-is_ending-clause-ok g c = λ told.
    connects_not g.M.OpenSteps.leads g.met.M.OpenSteps.led_none g.M.OpenSteps.as_open g.M.OpenSteps.moments c.args.to.now answer.Term told c.args.socket.now (sym c.takes_connect.ensures ∙ c.if-takes_connect.false) (sym (ap said_so (sym c.is_ending.ensures ∙ c.if-is_ending.true)))

pub returns-clause-ok : goal.returns-clause-ok
returns-clause-ok g c = λ told.
    connects_not g.M.OpenSteps.leads g.met.M.OpenSteps.led_none g.M.OpenSteps.as_open g.M.OpenSteps.moments c.args.to.now answer.NotSupported told c.args.socket.now (sym c.takes_connect.ensures ∙ c.if-takes_connect.false) (sym (ap said_so (sym c.is_ending.ensures ∙ c.if-is_ending.false)))
