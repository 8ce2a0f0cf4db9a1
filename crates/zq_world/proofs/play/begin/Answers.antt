use Rattle.std.proofs.Common.{sym, ◌∙◌}
use Rattle.zq_world.specs.Turning.{standings}
use Rattle.zq_world.proofs.RunLemmas.{ends_here, begins_asked, begins_asking, begins_busy}
use Rattle.zq_world.proofs.play.begin.Goals as goal

pub returns-in-Ended-clause-ok : goal.returns-in-Ended-clause-ok
returns-in-Ended-clause-ok g c = ends_here c.args.conductor (standings g.W.Sockets.as_open c.args.actors.now) c.in_ok-look.field-0 (g.W.Sockets.pieces c.args.way.now) (g.W.Sockets.pieces c.look.new.self) c.in-Ended.is c.in_ok-look.ensures.ok

pub returns-in-Asked-clause-ok : goal.returns-in-Asked-clause-ok
returns-in-Asked-clause-ok g c = begins_asked c.args.conductor (standings g.W.Sockets.as_open c.args.actors.now) c.in_ok-look.field-0 (g.W.Sockets.pieces c.args.way.now) (g.W.Sockets.pieces c.look.new.self) c.in-Asked.is c.in_ok-look.ensures.ok

pub returns-in_ok-ask_root-in-Live-clause-ok : goal.returns-in_ok-ask_root-in-Live-clause-ok
returns-in_ok-ask_root-in-Live-clause-ok g c =
    begins_asking c.args.conductor (standings g.W.Sockets.as_open c.args.actors.now) c.in_ok-look.field-0 (g.W.Sockets.pieces c.args.way.now) (g.W.Sockets.pieces c.look.new.self) (g.W.Sockets.pieces c.ask_root.new.self) c.in-Live.is
    (sym (c.all_finished.ensures g.W.Sockets.as_open) ∙ c.if-all_finished.true) c.in_ok-look.ensures.ok c.in_ok-ask_root-in-Live.ensures.ok

pub returns-else-all_finished-clause-ok : goal.returns-else-all_finished-clause-ok
returns-else-all_finished-clause-ok g c =
    begins_busy c.args.conductor (standings g.W.Sockets.as_open c.args.actors.now) c.in_ok-look.field-0 (g.W.Sockets.pieces c.args.way.now) (g.W.Sockets.pieces c.look.new.self) c.in-Live.is
    (sym (c.all_finished.ensures g.W.Sockets.as_open) ∙ c.if-all_finished.false) c.in_ok-look.ensures.ok

pub returns-in-Ended-clause-keeps : goal.returns-in-Ended-clause-keeps
returns-in-Ended-clause-keeps g c = c.look.ensures.keeps

pub returns-in-Asked-clause-keeps : goal.returns-in-Asked-clause-keeps
returns-in-Asked-clause-keeps g c = c.look.ensures.keeps

pub returns-else-all_finished-clause-keeps : goal.returns-else-all_finished-clause-keeps
returns-else-all_finished-clause-keeps g c = c.look.ensures.keeps

pub returns-in_err-look-clause-keeps : goal.returns-in_err-look-clause-keeps
returns-in_err-look-clause-keeps g c = c.look.ensures.keeps
