use Rattle.std.proofs.Common.{◌≡◌, All, true, sym, subst}
use Rattle.std.specs.Map.{keys_of}
use Rattle.std.specs.Option.{IfSome}
use Rattle.pub_sub.specs.Places.{is_place}
use Rattle.pub_sub.specs.Publishers.{PubState}
use Rattle.pub_sub.proofs.KnownLemmas.{place_of_all}
use Rattle.pub_sub.proofs.publisher.Publisher.obey_kept.Goals as goal

pub pair-pair-requires : goal.pair-pair-requires
pair-pair-requires g c =
    place_of_all (g.E.Peers.here c.args.peers.now) (keys_of c.self.inside.audience.topics) c.in-Some.place
    (subst (λ (p : PubState). All (g.E.Peers.here c.args.peers.now) (keys_of p.subs)) (sym c.self.view_is) c.requires.there)
    (subst (λ k. IfSome k (λ v. is_place (keys_of c.self.inside.audience.topics) v.0 ≡ true)) (sym c.in-Some.ensures.value) c.self.invariant.known.kept)
