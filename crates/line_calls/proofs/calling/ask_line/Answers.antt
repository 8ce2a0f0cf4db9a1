use Rattle.std.proofs.Common.{ap, ◌∙◌}
use Rattle.zq_base.specs.declared.ids.ObjId.{ObjId}
use Rattle.zq_base.specs.declared.endpoint.Endpoint.{Endpoint}
use Rattle.spec_control.specs.Control.{id}
use Rattle.spec_control.specs.declared.request.Req.TheVariants.{Bind}
use Rattle.line_calls.proofs.CallLemmas.{asked_as, requested_as}
use Rattle.line_calls.proofs.calling.ask_line.Goals as goal
use Rattle.spec_control.specs.declared.request.Req.TheVariants.{Unbind, Disconnect}

pub returns-in-Bind-clause-ok : goal.returns-in-Bind-clause-ok
returns-in-Bind-clause-ok g c =
    let M = g.M.OpenSteps in
    let none = g.met.M.OpenSteps.led_none in
    let x = c.ask in
    let a = c.args.socket.now in
    let o = id (M.as_open a).object in
    let same = ap (λ (i : ObjId). Bind i c.in_ok-at-in-Bind.at) c.number.ensures ∙ ap (λ (at : Endpoint). Bind o at) c.in_ok-at-in-Bind.ensures in
    asked_as M.leads none M.as_open M.moments x.result _ _ c.args.told.now.items a x.new.self c.in-Bind.is
    (requested_as M.leads none M.as_open M.moments x.result _ (λ n. Bind (id n) c.in-Bind.to) a x.new.self same x.ensures.ok)

pub returns-in-Connect-clause-ok : goal.returns-in-Connect-clause-ok
returns-in-Connect-clause-ok g c = asked_as g.M.OpenSteps.leads g.met.M.OpenSteps.led_none g.M.OpenSteps.as_open g.M.OpenSteps.moments c.connects.result _ _ c.args.told.now.items c.args.socket.now c.connects.new.socket c.in-Connect.is c.connects.ensures.ok

pub returns-in-Send-clause-ok : goal.returns-in-Send-clause-ok
returns-in-Send-clause-ok g c = asked_as g.M.OpenSteps.leads g.met.M.OpenSteps.led_none g.M.OpenSteps.as_open g.M.OpenSteps.moments c.sends.result _ _ c.args.told.now.items c.args.socket.now c.sends.new.socket c.in-Send.is c.sends.ensures.ok

pub returns-in-Subscribe-clause-ok : goal.returns-in-Subscribe-clause-ok
returns-in-Subscribe-clause-ok g c = asked_as g.M.OpenSteps.leads g.met.M.OpenSteps.led_none g.M.OpenSteps.as_open g.M.OpenSteps.moments c.subscribes.result _ _ c.args.told.now.items c.args.socket.now c.subscribes.new.socket c.in-Subscribe.is c.subscribes.ensures.ok

pub returns-in-Unsubscribe-clause-ok : goal.returns-in-Unsubscribe-clause-ok
returns-in-Unsubscribe-clause-ok g c = asked_as g.M.OpenSteps.leads g.met.M.OpenSteps.led_none g.M.OpenSteps.as_open g.M.OpenSteps.moments c.unsubscribes.result _ _ c.args.told.now.items c.args.socket.now c.unsubscribes.new.socket c.in-Unsubscribe.is c.unsubscribes.ensures.ok

pub returns-in-Unbind-clause-ok : goal.returns-in-Unbind-clause-ok
returns-in-Unbind-clause-ok g c =
    let M = g.M.OpenSteps in
    let none = g.met.M.OpenSteps.led_none in
    let x = c.ask-in-Unbind in
    let a = c.args.socket.now in
    let o = id (M.as_open a).object in
    let same = ap (λ (i : ObjId). Unbind i c.in_ok-at-in-Unbind.at) c.number-in-Unbind.ensures ∙ ap (λ (at : Endpoint). Unbind o at) c.in_ok-at-in-Unbind.ensures in
    asked_as M.leads none M.as_open M.moments x.result _ _ c.args.told.now.items a x.new.self c.in-Unbind.is
    (requested_as M.leads none M.as_open M.moments x.result _ (λ n. Unbind (id n) c.in-Unbind.to) a x.new.self same x.ensures.ok)

pub returns-in-Disconnect-clause-ok : goal.returns-in-Disconnect-clause-ok
returns-in-Disconnect-clause-ok g c =
    let M = g.M.OpenSteps in
    let none = g.met.M.OpenSteps.led_none in
    let x = c.ask-in-Disconnect in
    let a = c.args.socket.now in
    let o = id (M.as_open a).object in
    let same = ap (λ (i : ObjId). Disconnect i c.in_ok-at-in-Disconnect.at) c.number-in-Disconnect.ensures ∙ ap (λ (at : Endpoint). Disconnect o at) c.in_ok-at-in-Disconnect.ensures in
    asked_as M.leads none M.as_open M.moments x.result _ _ c.args.told.now.items a x.new.self c.in-Disconnect.is
    (requested_as M.leads none M.as_open M.moments x.result _ (λ n. Disconnect (id n) c.in-Disconnect.to) a x.new.self same x.ensures.ok)
