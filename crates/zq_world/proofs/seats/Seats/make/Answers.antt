use Rattle.std.proofs.Common.{sym, ap, subst, ◌∙◌, ◌++◌, ◌∷◌, [], List}
use Rattle.spec_run.specs.declared.script.Call.TheVariants as script_call
use Rattle.spec_run.specs.declared.answer.Answer.{Answer}
use Rattle.zq_world.specs.Seats.{AllAgree}
use Rattle.zq_world.specs.Seated.{seat_made, answer_made}
use Rattle.zq_world.specs.Stepping.{at_seats, DoesAsked}
use Rattle.zq_world.specs.declared.seats.Seat.{Seat}
use Rattle.zq_world.proofs.SeatLemmas.{shut_push, pushed_on, all_kept}
use Rattle.zq_world.proofs.HereLemmas.{others_kept, others_stay, asked_made, seated_agrees}
use Rattle.zq_world.proofs.seats.Seats.make.Goals as goal

pub returns-in_err-reserve-clause-agree : goal.returns-in_err-reserve-clause-agree
returns-in_err-reserve-clause-agree g c =
    subst (λ (seats : List (Seat _)). AllAgree g.W.Sockets.as_open g.W.Sockets.agrees g.W.Sockets.was_made c.args.way.now c.args.caller seats) (sym (c.reserve.ensures.items ∙ c.self.view_is)) c.requires.agree

pub returns-in_err-reserve-clause-others : goal.returns-in_err-reserve-clause-others
returns-in_err-reserve-clause-others g c = others_stay g.W.Sockets.agrees g.W.Sockets.was_made c.args.caller c.args.way.now

pub returns-in_err-made-clause-agree : goal.returns-in_err-made-clause-agree
returns-in_err-made-clause-agree g c =
    subst (λ (seats : List (Seat _)). AllAgree g.W.Sockets.as_open g.W.Sockets.agrees g.W.Sockets.was_made c.make.new.self c.args.caller seats) (sym (c.reserve.ensures.items ∙ c.self.view_is))
    (all_kept g.W.Sockets.as_open g.W.Sockets.agrees g.W.Sockets.was_made c.args.caller c.args.way.now c.make.new.self c.args.self.now c.make.ensures.keeps c.requires.agree)

pub returns-in_err-made-clause-others : goal.returns-in_err-made-clause-others
returns-in_err-made-clause-others g c = others_kept g.W.Sockets.agrees g.W.Sockets.was_made c.args.caller c.args.way.now c.make.new.self c.make.ensures.keeps

pub next_open-self-inside-requires : goal.next_open-self-inside-requires
next_open-self-inside-requires g c =
    rw (c.self.invariant, c.deref.ensures.value, c.push_reserved.ensures.items, c.reserve.ensures.items) (shut_push c.self.inside.seats.items c.seated-seat.result.0)

pub returns-clause-ok : goal.returns-clause-ok
returns-clause-ok g c told =
    subst (λ (said : Answer). DoesAsked c.args.caller (script_call.Socket c.args.kind c.args.options.now) said (at_seats g.W.Sockets.as_open c.args.self.now told (g.W.Sockets.pieces c.args.way.now)) (at_seats g.W.Sockets.as_open c.push_reserved.new.self.items told (g.W.Sockets.pieces c.make.new.self)))
    (sym c.seated-seat.ensures.answer)
    (subst (λ (seats : List (Seat _)). DoesAsked c.args.caller (script_call.Socket c.args.kind c.args.options.now) (answer_made c.in_ok-made.made) (at_seats g.W.Sockets.as_open c.args.self.now told (g.W.Sockets.pieces c.args.way.now)) (at_seats g.W.Sockets.as_open seats told (g.W.Sockets.pieces c.make.new.self)))
    (sym (pushed_on c.self.inside.seats.items c.reserve.new.self.items c.args.self.now c.push_reserved.new.self.items (seat_made c.in_ok-made.made) c.reserve.ensures.items c.self.view_is
    (c.push_reserved.ensures.items ∙ ap (λ (x : Seat _). c.reserve.new.self.items ++ x ∷ []) c.seated-seat.ensures.seat)))
    (asked_made g.W.Sockets.as_open g.W.Sockets.agrees g.W.Sockets.was_made c.args.caller c.args.kind c.args.options.now c.args.self.now c.in_ok-made.made told (g.W.Sockets.pieces c.args.way.now) (g.W.Sockets.pieces c.make.new.self) c.in_ok-made.ensures.ok))

pub returns-clause-agree : goal.returns-clause-agree
returns-clause-agree g c =
    subst (λ (seats : List (Seat _)). AllAgree g.W.Sockets.as_open g.W.Sockets.agrees g.W.Sockets.was_made c.make.new.self c.args.caller seats)
    (sym (pushed_on c.self.inside.seats.items c.reserve.new.self.items c.args.self.now c.push_reserved.new.self.items (seat_made c.in_ok-made.made) c.reserve.ensures.items c.self.view_is
    (c.push_reserved.ensures.items ∙ ap (λ (x : Seat _). c.reserve.new.self.items ++ x ∷ []) c.seated-seat.ensures.seat)))
    (seated_agrees g.W.Sockets.as_open g.W.Sockets.agrees g.W.Sockets.was_made c.args.caller c.args.kind c.args.options.now c.args.self.now c.in_ok-made.made c.args.way.now c.make.new.self (g.W.Sockets.pieces c.args.way.now) (g.W.Sockets.pieces c.make.new.self)
    c.in_ok-made.ensures.ok c.in_ok-made.ensures.is_new c.make.ensures.keeps c.requires.agree)

pub returns-clause-others : goal.returns-clause-others
returns-clause-others g c = others_kept g.W.Sockets.agrees g.W.Sockets.was_made c.args.caller c.args.way.now c.make.new.self c.make.ensures.keeps
