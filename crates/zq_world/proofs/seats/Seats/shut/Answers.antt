use Rattle.std.proofs.Common.{arith, sym, refl, ◌∙◌}
use Rattle.zq_world.specs.declared.seats.Seat.TheVariants as seat
use Rattle.zq_world.proofs.SeatLemmas.{shut_closed, shut_same, open_at_here, not_shut_in, others_left}
use Rattle.zq_world.proofs.LineLemmas.{shuts_in, shut_agrees_in, agrees_in}
use Rattle.zq_world.proofs.HereLemmas.{within_open, agreed_in}
use Rattle.zq_world.proofs.seats.Seats.shut.Goals as goal

pub next_open-self-inside-requires : goal.next_open-self-inside-requires
next_open-self-inside-requires g c = rw (c.self.invariant, c.deref.ensures.value) (shut_closed c.self.inside.seats.items c.args.place (seat.Closed c.in-Open.object) refl)

pub returns-in-Ok-clause-ok : goal.returns-in-Ok-clause-ok
returns-in-Ok-clause-ok g c =
    shuts_in g.W.Sockets.as_open g.W.Sockets.agrees g.W.Sockets.was_made c.args.caller c.args.place c.self.inside.seats.items c.args.self.now c.index_mut-seat.result.now
    c.in-Open.object c.in-Open.socket c.args.way.now (g.W.Sockets.pieces c.args.way.now) (g.W.Sockets.pieces c.close.new.self)
    c.self.view_is c.requires.here c.index_mut-seat.ensures.value (sym c.replace.ensures.value ∙ c.in-Open.is) c.requires.agree c.in-Ok.ensures.ok

pub returns-in-Ok-clause-agree : goal.returns-in-Ok-clause-agree
returns-in-Ok-clause-agree g c =
    shut_agrees_in g.W.Sockets.as_open g.W.Sockets.agrees g.W.Sockets.was_made c.args.caller c.args.place c.self.inside.seats.items c.args.self.now c.index_mut-seat.result.now
    c.in-Open.object c.in-Open.socket c.args.way.now c.close.new.self
    c.self.view_is c.requires.here c.index_mut-seat.ensures.value (sym c.replace.ensures.value ∙ c.in-Open.is) c.requires.agree c.in-Ok.ensures.keeps

pub returns-in-Ok-clause-others : goal.returns-in-Ok-clause-others
returns-in-Ok-clause-others g c =
    others_left g.W.Sockets.as_open g.W.Sockets.agrees g.W.Sockets.was_made c.args.caller (g.W.Sockets.as_open c.in-Open.socket).object c.args.way.now c.close.new.self c.in-Ok.ensures.keeps

pub invariant_of-self-in-Err : goal.invariant_of-self-in-Err
invariant_of-self-in-Err g c =
    c.self.invariant ∙ sym (shut_same c.self.inside.seats.items c.args.place (seat.Open c.in-Open.object c.in-Open.socket) (seat.Open c.in-Open.object c.in-Err.failed.value)
    (open_at_here c.args.place c.self.inside.seats.items c.args.self.now c.index_mut-seat.result.now c.in-Open.object c.in-Open.socket c.self.view_is c.requires.here c.index_mut-seat.ensures.value (sym c.replace.ensures.value ∙ c.in-Open.is))
    refl refl)

pub returns-in-Err-clause-agree : goal.returns-in-Err-clause-agree
returns-in-Err-clause-agree g c =
    agrees_in g.W.Sockets.as_open g.W.Sockets.agrees g.W.Sockets.was_made c.args.caller c.args.place c.self.inside.seats.items c.args.self.now c.index_mut-seat.result.now
    c.in-Open.object c.in-Open.socket c.in-Err.failed.value c.args.way.now c.close.new.self
    c.self.view_is c.requires.here c.index_mut-seat.ensures.value (sym c.replace.ensures.value ∙ c.in-Open.is) c.requires.agree c.in-Err.ensures.back c.in-Err.ensures.keeps

pub invariant_of-self-in_default : goal.invariant_of-self-in_default
invariant_of-self-in_default g c =
    elim (not_shut_in c.args.place c.self.inside.seats.items c.args.self.now c.index_mut-seat.result.now c.self.view_is c.requires.here c.index_mut-seat.ensures.value (λ object socket e. c.in_default.not-Open object socket (c.replace.ensures.value ∙ e))) [ ]

pub returns-in_default : goal.returns-in_default
returns-in_default g c =
    elim (not_shut_in c.args.place c.self.inside.seats.items c.args.self.now c.index_mut-seat.result.now c.self.view_is c.requires.here c.index_mut-seat.ensures.value (λ object socket e. c.in_default.not-Open object socket (c.replace.ensures.value ∙ e))) [ ]

pub close-requires : goal.close-requires
close-requires g c = record {
  agrees = agreed_in g.W.Sockets.as_open g.W.Sockets.agrees g.W.Sockets.was_made c.args.caller c.args.place c.self.inside.seats.items c.args.self.now c.index_mut-seat.result.now c.in-Open.object c.in-Open.socket c.args.way.now
      c.self.view_is c.requires.here c.index_mut-seat.ensures.value (sym c.replace.ensures.value ∙ c.in-Open.is) c.requires.agree;
}

pub returns-in-Err-clause-ok : goal.returns-in-Err-clause-ok
returns-in-Err-clause-ok g c = tt

pub returns-in-Err-clause-others : goal.returns-in-Err-clause-others
returns-in-Err-clause-others g c = others_left g.W.Sockets.as_open g.W.Sockets.agrees g.W.Sockets.was_made c.args.caller (g.W.Sockets.as_open c.in-Open.socket).object c.args.way.now c.close.new.self c.in-Err.ensures.keeps

pub index_mut-seat-requires : goal.index_mut-seat-requires
index_mut-seat-requires g c = let w = within_open c.args.place c.self.inside.seats.items c.args.self.now c.self.view_is c.requires.here in omega (arith, w)
