use Rattle.std.proofs.Common.{ap, arith, ◌≤◌}
use Rattle.zq_world.specs.Seats.{is_open, shut_before}
use Rattle.zq_world.proofs.SeatLemmas.{shut_open, shut_step, shut_within, not_open, read_at}
use Rattle.zq_world.proofs.seats.next_open.Goals as goal

pub returns-in-Open : goal.returns-in-Open
returns-in-Open g c =
    let least : shut_before c.args.seats.now ≤ c.seats.place = shut_open c.args.seats.now c.seats.place c.index-seats-place.result
    (read_at c.args.seats.now c.seats.place c.index-seats-place.result c.seats-test.true c.index-seats-place.is) (ap is_open c.in-Open.is) in
    let most : c.seats.place ≤ shut_before c.args.seats.now = c.seats.invariant in
    omega (arith, least, most)

pub seats-preserved : goal.seats-preserved
seats-preserved g c = shut_step c.args.seats.now c.seats.place c.index-seats-place.result
    (read_at c.args.seats.now c.seats.place c.index-seats-place.result c.seats-test.true c.index-seats-place.is)
    (not_open c.index-seats-place.result c.in_default.not-Open) c.seats.invariant

pub returns : goal.returns
returns g c =
    let within = shut_within c.args.seats.now in
    let most : c.seats.place ≤ shut_before c.args.seats.now = c.seats.invariant in
    omega (arith, within, most, c.seats-test.false)
