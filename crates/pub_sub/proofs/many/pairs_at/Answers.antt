use Rattle.std.proofs.Common.{◌∙◌, ◌++◌, ◌∷◌, [], length, sym, ap, arith}
use Rattle.pub_sub.proofs.ManyLemmas.{pairs_at-more, pairs_at-length}
use Rattle.pub_sub.proofs.many.pairs_at.Goals as goal

pub push_reserved-requires : goal.push_reserved-requires
push_reserved-requires g c =
    let long = ap length c.places.invariant.pairs_are ∙ pairs_at-length (g.E.Peers.end_at c.args.peers.now) c.args.places.now c.places.place-index (omega arith) in
    let room = c.places.invariant.room in
    let ok = c.places.pairs.ok in
    omega (arith, long, room, ok)

pub places-preserved : goal.places-preserved
places-preserved g c = record {
  pairs_are = c.push_reserved.ensures.items ∙ (λ j. c.places.invariant.pairs_are j ++ c.pair.ensures j ∷ [])
      ∙ sym (pairs_at-more (g.E.Peers.end_at c.args.peers.now) c.args.places.now c.places.place-index c.places-test.true);
  room = (let room = c.places.invariant.room in omega (arith, room, c.push_reserved.ensures.capacity));
}
