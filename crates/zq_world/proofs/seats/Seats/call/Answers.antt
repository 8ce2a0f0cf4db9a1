use Rattle.std.proofs.Common.{arith, sym, refl, ◌∙◌}
use Rattle.std.proofs.lemmas.Result.{IfOk-weaker}
use Rattle.zq_world.specs.declared.seats.Seat.TheVariants as seat
use Rattle.zq_world.proofs.SeatLemmas.{all_fit, others_left, shut_same, open_at_here, not_shut_in}
use Rattle.zq_world.proofs.HereLemmas.{within_open, asks_socket, agreed_in, others_stay}
use Rattle.zq_world.proofs.LineLemmas.{asked_none, calls_in, agrees_in}
use Rattle.zq_world.proofs.seats.Seats.call.Goals as goal

pub returns-then-not-is_open_at-clause-ok : goal.returns-then-not-is_open_at-clause-ok
returns-then-not-is_open_at-clause-ok g c =
    asked_none g.W.Sockets.as_open c.args.caller c.args.place c.args.line.now c.args.self.now c.args.told.now.items (g.W.Sockets.pieces c.args.way.now)
    c.requires.place (sym c.is_open_at.ensures ∙ c.if-not-is_open_at.true) (all_fit g.W.Sockets.as_open g.W.Sockets.agrees g.W.Sockets.was_made c.args.way.now c.args.caller c.args.self.now c.requires.agree.agree) c.requires.agree.apart

pub invariant_of-self : goal.invariant_of-self
invariant_of-self g c =
    c.self.invariant ∙ sym (shut_same c.self.inside.seats.items c.args.place (seat.Open c.in-Open.field-0 c.in-Open.socket) (seat.Open c.in-Open.field-0 c.call.new.socket)
    (open_at_here c.args.place c.self.inside.seats.items c.args.self.now c.index_mut.result.now c.in-Open.field-0 c.in-Open.socket c.self.view_is (sym c.is_open_at.ensures ∙ c.if-not-is_open_at.false) c.index_mut.ensures.value c.in-Open.is)
    refl refl)

pub returns-in-Open-clause-ok : goal.returns-in-Open-clause-ok
returns-in-Open-clause-ok g c =
    IfOk-weaker c.call.result _ _
    (λ answer h. calls_in g.W.Sockets.as_open g.W.Sockets.agrees g.W.Sockets.was_made c.args.caller c.args.place c.args.line.now answer c.self.inside.seats.items c.args.self.now c.index_mut.result.now
    c.in-Open.field-0 c.in-Open.socket c.call.new.socket c.args.way.now c.args.told.now.items c.call.new.told.items (g.W.Sockets.pieces c.args.way.now) (g.W.Sockets.pieces c.call.new.self)
    c.self.view_is (sym c.is_open_at.ensures ∙ c.if-not-is_open_at.false) c.index_mut.ensures.value c.in-Open.is c.requires.place c.requires.agree c.call.ensures.lent.same h)
    c.call.ensures.ok

pub returns-in-Open-clause-agree : goal.returns-in-Open-clause-agree
returns-in-Open-clause-agree g c =
    agrees_in g.W.Sockets.as_open g.W.Sockets.agrees g.W.Sockets.was_made c.args.caller c.args.place c.self.inside.seats.items c.args.self.now c.index_mut.result.now
    c.in-Open.field-0 c.in-Open.socket c.call.new.socket c.args.way.now c.call.new.self
    c.self.view_is (sym c.is_open_at.ensures ∙ c.if-not-is_open_at.false) c.index_mut.ensures.value c.in-Open.is c.requires.agree c.call.ensures.lent c.call.ensures.keeps

pub returns-in_default : goal.returns-in_default
returns-in_default g c =
    elim (not_shut_in c.args.place c.self.inside.seats.items c.args.self.now c.index_mut.result.now c.self.view_is (sym c.is_open_at.ensures ∙ c.if-not-is_open_at.false) c.index_mut.ensures.value c.in_default.not-Open) [ ]

pub call-requires-clause-agrees : goal.call-requires-clause-agrees
call-requires-clause-agrees g c =
    agreed_in g.W.Sockets.as_open g.W.Sockets.agrees g.W.Sockets.was_made c.args.caller c.args.place c.self.inside.seats.items c.args.self.now c.index_mut.result.now c.in-Open.field-0 c.in-Open.socket c.args.way.now
    c.self.view_is (sym c.is_open_at.ensures ∙ c.if-not-is_open_at.false) c.index_mut.ensures.value c.in-Open.is c.requires.agree

pub call-requires-clause-asks : goal.call-requires-clause-asks
call-requires-clause-asks g c = asks_socket c.args.line.now c.args.place c.requires.place

pub call-requires-clause-may : goal.call-requires-clause-may
call-requires-clause-may g c = c.requires.may

pub returns-in-Open-clause-others : goal.returns-in-Open-clause-others
returns-in-Open-clause-others g c = others_left g.W.Sockets.as_open g.W.Sockets.agrees g.W.Sockets.was_made c.args.caller (g.W.Sockets.as_open c.in-Open.socket).object c.args.way.now c.call.new.self c.call.ensures.keeps

pub returns-then-not-is_open_at-clause-agree : goal.returns-then-not-is_open_at-clause-agree
returns-then-not-is_open_at-clause-agree g c = c.requires.agree

pub returns-then-not-is_open_at-clause-others : goal.returns-then-not-is_open_at-clause-others
returns-then-not-is_open_at-clause-others g c = others_stay g.W.Sockets.agrees g.W.Sockets.was_made c.args.caller c.args.way.now

pub invariant_of-self-in_default : goal.invariant_of-self-in_default
invariant_of-self-in_default g c =
    elim (not_shut_in c.args.place c.self.inside.seats.items c.args.self.now c.index_mut.result.now c.self.view_is (sym c.is_open_at.ensures ∙ c.if-not-is_open_at.false) c.index_mut.ensures.value c.in_default.not-Open) [ ]

pub index_mut-requires : goal.index_mut-requires
index_mut-requires g c = let w = within_open c.args.place c.self.inside.seats.items c.args.self.now c.self.view_is (sym c.is_open_at.ensures ∙ c.if-not-is_open_at.false) in omega (arith, w)
