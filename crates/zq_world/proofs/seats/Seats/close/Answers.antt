use Rattle.std.proofs.Common.{sym, ◌∙◌}
use Rattle.zq_world.proofs.SeatLemmas.{all_fit}
use Rattle.zq_world.proofs.LineLemmas.{closes_none, closes_open}
use Rattle.zq_world.proofs.seats.Seats.close.Goals as goal

pub returns-then-not-is_open_at-clause-ok : goal.returns-then-not-is_open_at-clause-ok
returns-then-not-is_open_at-clause-ok g c told =
    closes_none g.W.Sockets.as_open c.args.caller c.args.place c.args.self.now told (g.W.Sockets.pieces c.args.way.now)
    (sym c.is_open_at.ensures ∙ c.if-not-is_open_at.true) (all_fit g.W.Sockets.as_open g.W.Sockets.agrees g.W.Sockets.was_made c.args.way.now c.args.caller c.args.self.now c.requires.agree.agree) c.requires.agree.apart

pub returns-clause-ok : goal.returns-clause-ok
returns-clause-ok g c told =
    closes_open g.W.Sockets.as_open c.args.caller c.args.place c.args.self.now c.shut.new.self told (g.W.Sockets.pieces c.args.way.now) (g.W.Sockets.pieces c.shut.new.way)
    (all_fit g.W.Sockets.as_open g.W.Sockets.agrees g.W.Sockets.was_made c.args.way.now c.args.caller c.args.self.now c.requires.agree.agree) c.requires.agree.apart c.in_ok-shut.ensures.ok
