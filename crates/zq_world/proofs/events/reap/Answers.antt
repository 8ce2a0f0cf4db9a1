use Rattle.std.proofs.Common.{sym, ◌∙◌}
use Rattle.std.proofs.lemmas.Result.{on_ok_weaker}
use Rattle.zq_world.proofs.StepLemmas.{agree_still}
use Rattle.zq_world.proofs.EventLemmas.{one_more_reaped, one_not_reaped}
use Rattle.zq_world.proofs.events.reap.Goals as goal

pub returns-then-is_reapers-clause-ok : goal.returns-then-is_reapers-clause-ok
returns-then-is_reapers-clause-ok g c =
    on_ok_weaker c.reap_at.result
    (λ h. one_more_reaped g.W.Sockets.as_open c.args.slot c.args.actors.now (g.W.Sockets.pieces c.args.way.now) (g.W.Sockets.pieces c.reap_at.new.self) c.requires.waits c.requires.none
    (sym c.is_reapers.ensures ∙ c.if-is_reapers.true) h)
    c.reap_at.ensures.ok

pub returns-then-is_reapers-clause-agree : goal.returns-then-is_reapers-clause-agree
returns-then-is_reapers-clause-agree g c =
    agree_still g.W.Sockets.as_open g.W.Sockets.agrees g.W.Sockets.was_made c.args.way.now c.reap_at.new.self c.args.actors.now c.reap_at.ensures.keeps c.requires.agree

pub returns-clause-ok : goal.returns-clause-ok
returns-clause-ok g c =
    one_not_reaped g.W.Sockets.as_open c.args.slot c.args.actors.now (g.W.Sockets.pieces c.args.way.now) c.requires.waits c.requires.none (sym c.is_reapers.ensures ∙ c.if-is_reapers.false)
