use Rattle.std.proofs.Common.{sym, ◌∙◌, arith}
use Rattle.zq_world.proofs.SeatLemmas.{read_at}
use Rattle.zq_world.proofs.FetchLemmas.{pass_one, first_here, none_passed}
use Rattle.zq_world.proofs.fetching.first_with.Goals as goal

pub returns-then-seat_has-clause-some : goal.returns-then-seat_has-clause-some
returns-then-seat_has-clause-some g c =
    first_here g.W.Sockets.as_open c.args.slot c.seats.place c.args.seats.now c.index-seats-place.result c.seats.invariant
    (read_at c.args.seats.now c.seats.place c.index-seats-place.result c.seats-test.true c.index-seats-place.is) (sym c.seat_has.ensures ∙ c.if-seat_has.true)

pub seats-preserved : goal.seats-preserved
seats-preserved g c =
    pass_one g.W.Sockets.as_open c.args.slot c.seats.place c.args.seats.now c.index-seats-place.result c.seats.invariant
    (read_at c.args.seats.now c.seats.place c.index-seats-place.result c.seats-test.true c.index-seats-place.is) (sym c.seat_has.ensures ∙ c.if-seat_has.false)

pub returns-clause-none : goal.returns-clause-none
returns-clause-none g c = none_passed g.W.Sockets.as_open c.args.slot c.seats.place c.args.seats.now c.seats.invariant (omega (arith, c.seats-test.false))
