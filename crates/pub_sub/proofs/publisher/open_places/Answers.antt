use Rattle.std.proofs.Common.{◌∙◌, ◌++◌, ◌∷◌, [], filter, get_or, ap, arith}
use Rattle.pub_sub.proofs.ManyLemmas.{filter-more}
use Rattle.pub_sub.proofs.FollowerLemmas.{take_all}
use Rattle.pub_sub.proofs.publisher.open_places.Goals as goal

pub push_open-requires : goal.push_open-requires
push_open-requires g c = record { there = c.requires.there c.places.place-index 0 c.places-test.true }

pub places-preserved : goal.places-preserved
places-preserved g c =
    c.in_ok-push_open.ensures
    ∙ (λ j. c.places.invariant j ++ filter (g.E.Peers.writable c.args.peers.now) (get_or c.args.places.now c.places.place-index 0 ∷ []))
    ∙ filter-more (g.E.Peers.writable c.args.peers.now) c.args.places.now c.places.place-index c.places-test.true

pub returns : goal.returns
returns g c =
    c.places.invariant
    ∙ ap (filter (g.E.Peers.writable c.args.peers.now)) (take_all c.args.places.now c.places.place-index (omega (arith, c.places-test.false)))
