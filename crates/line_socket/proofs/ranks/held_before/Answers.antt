use Rattle.std.proofs.Common.{◌∙◌, drop, ap, arith}
use Rattle.line_socket.specs.Readers.{held_places}
use Rattle.line_socket.proofs.RankLemmas.{held_goes, one_more}
use Rattle.line_socket.proofs.ranks.held_before.Goals as goal

pub each-preserved : goal.each-preserved
each-preserved g c =
    let ps = c.args.places.now in
    let so = c.each.invariant in
    let below = c.each-test.true in
    let within = c.requires.within in (
      one_more c.index-places-at.result.held c.each.many c.each.at c.more_held-many.result c.more_held-many.ensures so.0,
      omega (arith, below),
      ap (λ n. drop n (held_places ps)) c.more_held-many.ensures ∙ held_goes ps c.each.at c.each.many c.index-places-at.result (omega (arith, below, within)) c.index-places-at.is so.2,
    )
