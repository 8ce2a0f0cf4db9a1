use Rattle.std.proofs.Common.{rules}
use Rattle.std.proofs.lemmas.Result.{on_ok_weaker}
use Rattle.zq_world.proofs.StepLemmas.{agree_still}
use Rattle.zq_world.proofs.EventLemmas.{one_more_ask}
use Rattle.zq_world.proofs.events.ask.Goals as goal

pub returns-clause-ok : goal.returns-clause-ok
returns-clause-ok g c =
    on_ok_weaker c.ask_root.result
    (λ h. one_more_ask g.W.Sockets.as_open c.saturating_add.result c.args.actors.now (g.W.Sockets.pieces c.args.way.now) (g.W.Sockets.pieces c.ask_root.new.self) (search rules) h)
    c.ask_root.ensures.ok

pub returns-clause-agree : goal.returns-clause-agree
returns-clause-agree g c =
    agree_still g.W.Sockets.as_open g.W.Sockets.agrees g.W.Sockets.was_made c.args.way.now c.ask_root.new.self c.args.actors.now c.ask_root.ensures.keeps c.requires.agree
