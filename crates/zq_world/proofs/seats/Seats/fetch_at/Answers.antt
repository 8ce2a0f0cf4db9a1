use Rattle.std.proofs.Common.{arith, ◌≡◌, sym, refl, subst, true, ◌∙◌}
use Rattle.std.proofs.lemmas.Result.{on_ok_weaker}
use Rattle.spec_run.specs.CoreEvents.{may_take}
use Rattle.zq_world.specs.Taking.{control_told}
use Rattle.zq_world.specs.declared.seats.Seat.TheVariants as seat
use Rattle.zq_world.proofs.SeatLemmas.{others_left, shut_same, open_at_here, not_shut_in}
use Rattle.zq_world.proofs.LineLemmas.{agrees_in}
use Rattle.zq_world.proofs.FetchLemmas.{is_open_first, slot_in, fetches_in}
use Rattle.zq_world.proofs.HereLemmas.{within_open, agreed_in}
use Rattle.zq_world.proofs.seats.Seats.fetch_at.Goals as goal

pub invariant_of-self : goal.invariant_of-self
invariant_of-self g c =
    c.self.invariant ∙ sym (shut_same c.self.inside.seats.items c.args.place (seat.Open c.in-Open.field-0 c.in-Open.socket) (seat.Open c.in-Open.field-0 c.fetch.new.socket)
    (open_at_here c.args.place c.self.inside.seats.items c.args.self.now c.index_mut.result.now c.in-Open.field-0 c.in-Open.socket c.self.view_is (is_open_first g.W.Sockets.as_open c.args.slot c.args.place c.args.self.now c.requires.first) c.index_mut.ensures.value c.in-Open.is)
    refl refl)

pub returns-in-Open-clause-ok : goal.returns-in-Open-clause-ok
returns-in-Open-clause-ok g c =
    on_ok_weaker c.fetch.result
    (λ h. fetches_in g.W.Sockets.as_open g.W.Sockets.agrees g.W.Sockets.was_made c.args.caller c.args.slot c.args.place c.self.inside.seats.items c.args.self.now c.index_mut.result.now
    c.in-Open.field-0 c.in-Open.socket c.fetch.new.socket c.args.way.now (g.W.Sockets.pieces c.args.way.now) (g.W.Sockets.pieces c.fetch.new.self)
    c.self.view_is c.requires.first c.index_mut.ensures.value c.in-Open.is c.requires.agree c.fetch.ensures.lent.same h)
    c.fetch.ensures.ok

pub returns-in-Open-clause-agree : goal.returns-in-Open-clause-agree
returns-in-Open-clause-agree g c =
    agrees_in g.W.Sockets.as_open g.W.Sockets.agrees g.W.Sockets.was_made c.args.caller c.args.place c.self.inside.seats.items c.args.self.now c.index_mut.result.now
    c.in-Open.field-0 c.in-Open.socket c.fetch.new.socket c.args.way.now c.fetch.new.self
    c.self.view_is (is_open_first g.W.Sockets.as_open c.args.slot c.args.place c.args.self.now c.requires.first) c.index_mut.ensures.value c.in-Open.is c.requires.agree c.fetch.ensures.lent c.fetch.ensures.keeps

pub returns-in_default : goal.returns-in_default
returns-in_default g c =
    elim (not_shut_in c.args.place c.self.inside.seats.items c.args.self.now c.index_mut.result.now c.self.view_is (is_open_first g.W.Sockets.as_open c.args.slot c.args.place c.args.self.now c.requires.first) c.index_mut.ensures.value c.in_default.not-Open) [ ]

pub fetch-requires-clause-agrees : goal.fetch-requires-clause-agrees
fetch-requires-clause-agrees g c =
    agreed_in g.W.Sockets.as_open g.W.Sockets.agrees g.W.Sockets.was_made c.args.caller c.args.place c.self.inside.seats.items c.args.self.now c.index_mut.result.now c.in-Open.field-0 c.in-Open.socket c.args.way.now
    c.self.view_is (is_open_first g.W.Sockets.as_open c.args.slot c.args.place c.args.self.now c.requires.first) c.index_mut.ensures.value c.in-Open.is c.requires.agree

pub fetch-requires-clause-waits : goal.fetch-requires-clause-waits
fetch-requires-clause-waits g c =
    subst (λ n. may_take (control_told (g.W.Sockets.pieces c.args.way.now)) n ≡ true)
    (sym (slot_in g.W.Sockets.as_open c.args.slot c.args.place c.self.inside.seats.items c.args.self.now c.index_mut.result.now c.in-Open.field-0 c.in-Open.socket c.self.view_is c.requires.first c.index_mut.ensures.value c.in-Open.is))
    c.requires.waits

pub returns-in-Open-clause-others : goal.returns-in-Open-clause-others
returns-in-Open-clause-others g c = others_left g.W.Sockets.as_open g.W.Sockets.agrees g.W.Sockets.was_made c.args.caller (g.W.Sockets.as_open c.in-Open.socket).object c.args.way.now c.fetch.new.self c.fetch.ensures.keeps

pub invariant_of-self-in_default : goal.invariant_of-self-in_default
invariant_of-self-in_default g c =
    elim (not_shut_in c.args.place c.self.inside.seats.items c.args.self.now c.index_mut.result.now c.self.view_is (is_open_first g.W.Sockets.as_open c.args.slot c.args.place c.args.self.now c.requires.first) c.index_mut.ensures.value c.in_default.not-Open) [ ]

pub index_mut-requires : goal.index_mut-requires
index_mut-requires g c = let w = within_open c.args.place c.self.inside.seats.items c.args.self.now c.self.view_is (is_open_first g.W.Sockets.as_open c.args.slot c.args.place c.args.self.now c.requires.first) in omega (arith, w)
