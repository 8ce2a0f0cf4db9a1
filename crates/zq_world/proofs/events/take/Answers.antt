use Rattle.std.proofs.Common.{◌≡◌, true, sym, subst, ◌∙◌}
use Rattle.std.proofs.lemmas.Option.{get_or_from_slice_get, slice_get_within}
use Rattle.std.proofs.lemmas.Result.{on_ok_weaker}
use Rattle.zq_world.specs.Stepping.{standing_of, ActorAgrees}
use Rattle.zq_world.specs.Taking.{has_slot, FetchesSo}
use Rattle.zq_world.proofs.StepLemmas.{agree_then}
use Rattle.zq_world.proofs.EventLemmas.{one_not_taken, one_more_fetched}
use Rattle.zq_world.proofs.events.take.Goals as goal

pub returns-then-not-may_take-clause-ok : goal.returns-then-not-may_take-clause-ok
returns-then-not-may_take-clause-ok g c = one_not_taken g.W.Sockets.as_open c.args.slot c.args.actors.now (g.W.Sockets.pieces c.args.way.now) (sym c.may_take.ensures ∙ c.if-not-may_take.true)

pub returns-in-Some-clause-ok : goal.returns-in-Some-clause-ok
returns-in-Some-clause-ok g c =
    on_ok_weaker c.fetch.result
    (λ h. one_more_fetched g.W.Sockets.as_open c.in-Some.number c.args.slot c.args.actors.now c.in-Some.ensures.some.actor c.fetch.new.self (g.W.Sockets.pieces c.args.way.now) (g.W.Sockets.pieces c.fetch.new.way)
    c.in-Some.ensures.some.here (sym c.may_take.ensures ∙ c.if-not-may_take.false) c.in-Some.ensures.some.first
    (subst (λ a. FetchesSo g.W.Sockets.as_open c.in-Some.number c.args.slot a c.fetch.new.self (g.W.Sockets.pieces c.args.way.now) (g.W.Sockets.pieces c.fetch.new.way)) (get_or_from_slice_get c.args.actors.now c.in-Some.number c.in-Some.ensures.some.actor _ c.in-Some.ensures.some.here) h))
    c.fetch.ensures.ok

pub returns-in-Some-clause-agree : goal.returns-in-Some-clause-agree
returns-in-Some-clause-agree g c =
    agree_then g.W.Sockets.as_open g.W.Sockets.agrees g.W.Sockets.was_made c.args.way.now c.fetch.new.way c.args.actors.now c.in-Some.number c.in-Some.ensures.some.actor c.fetch.new.self
    c.in-Some.ensures.some.here c.requires.agree c.fetch.ensures.agrees c.fetch.ensures.others

pub fetch-requires-clause-agrees : goal.fetch-requires-clause-agrees
fetch-requires-clause-agrees g c =
    subst (λ a. ActorAgrees g.W.Sockets.as_open g.W.Sockets.agrees g.W.Sockets.was_made c.args.way.now c.in-Some.number a)
    (sym (get_or_from_slice_get c.args.actors.now c.in-Some.number c.in-Some.ensures.some.actor _ c.in-Some.ensures.some.here))
    (c.requires.agree c.in-Some.number c.in-Some.ensures.some.actor c.in-Some.ensures.some.here)

pub fetch-requires-clause-has : goal.fetch-requires-clause-has
fetch-requires-clause-has g c =
    subst (λ a. has_slot c.args.slot (standing_of g.W.Sockets.as_open a).mine.socks ≡ true)
    (sym (get_or_from_slice_get c.args.actors.now c.in-Some.number c.in-Some.ensures.some.actor _ c.in-Some.ensures.some.here))
    c.in-Some.ensures.some.has

pub fetch-requires-clause-waits : goal.fetch-requires-clause-waits
fetch-requires-clause-waits g c = sym c.may_take.ensures ∙ c.if-not-may_take.false

pub reap-requires-clause-agree : goal.reap-requires-clause-agree
reap-requires-clause-agree g c = c.requires.agree

pub reap-requires-clause-alone : goal.reap-requires-clause-alone
reap-requires-clause-alone g c = c.requires.alone

pub reap-requires-clause-waits : goal.reap-requires-clause-waits
reap-requires-clause-waits g c = sym c.may_take.ensures ∙ c.if-not-may_take.false

pub reap-requires-clause-none : goal.reap-requires-clause-none
reap-requires-clause-none g c = c.in-None.ensures.none

pub returns-in-None-clause-ok : goal.returns-in-None-clause-ok
returns-in-None-clause-ok g c = c.reap.ensures.ok

pub returns-in-None-clause-agree : goal.returns-in-None-clause-agree
returns-in-None-clause-agree g c = c.reap.ensures.agree

pub returns-then-not-may_take-clause-agree : goal.returns-then-not-may_take-clause-agree
returns-then-not-may_take-clause-agree g c = c.requires.agree

pub bounds-actors-number : goal.bounds-actors-number
bounds-actors-number g c = slice_get_within c.args.actors.now c.in-Some.number c.in-Some.ensures.some.actor c.in-Some.ensures.some.here
