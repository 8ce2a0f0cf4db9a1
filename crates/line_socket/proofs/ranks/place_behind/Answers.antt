use Rattle.std.proofs.Common.{◌∙◌, ◌+◌, drop, ap, arith}
use Rattle.line_socket.specs.Readers.{held_places}
use Rattle.line_socket.proofs.RankLemmas.{left_goes}
use Rattle.line_socket.proofs.ranks.place_behind.Goals as goal

pub each-preserved : goal.each-preserved
each-preserved g c =
    let ps = c.args.places.now in
    let some = c.if-left-eq0.false in
    ap (λ n. drop n (held_places (drop (c.each.at + 1) ps))) c.less_held-left.ensures
    ∙ left_goes ps c.each.at c.each.left c.args.many c.index-places-at.result c.each-test.true c.index-places-at.is (omega (arith, some)) c.each.invariant
