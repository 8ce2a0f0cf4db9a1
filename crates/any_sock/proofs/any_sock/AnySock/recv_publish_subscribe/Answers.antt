use Rattle.std.proofs.Common.{All, sym, ap, subst, refl, []}
use Rattle.std.specs.Map.{keys_of}
use Rattle.any_sock.specs.Over.{HaveSamePlaces, peer_places}
use Rattle.any_sock.specs.declared.any_sock.AnySock.{AnySock}
use Rattle.any_sock.specs.declared.any_sock.AnySock.TheVariants as sock
use Rattle.any_sock.proofs.PlaceLemmas.{all_front, same_as, same_both, order_as}
use Rattle.any_sock.proofs.RecvLemmas.{pub_got, xpub_got, sub_got, xsub_got}
use Rattle.any_sock.proofs.any_sock.AnySock.recv_publish_subscribe.Goals as goal

pub returns-in-Pub-clause-step : goal.returns-in-Pub-clause-step
returns-in-Pub-clause-step g c =
    pub_got _ _ _ _ _ _ c.recv.result c.args.self.now c.in-Pub.publisher c.in-Pub.is refl
    (subst (λ t. g.E.Peers.runs c.args.peers.now [] t) (sym c.recv.ensures.peers) (g.met.E.Peers.runs_none c.args.peers.now)) c.recv.ensures.step

pub returns-in-Pub-clause-places : goal.returns-in-Pub-clause-places
returns-in-Pub-clause-places g c = subst (λ (q : AnySock). HaveSamePlaces (peer_places q) (peer_places (sock.Pub c.in-Pub.publisher))) (sym c.in-Pub.is) (same_as _ _ refl)

pub returns-in-XPub-clause-step : goal.returns-in-XPub-clause-step
returns-in-XPub-clause-step g c = xpub_got _ _ _ _ _ _ c.recv-in-XPub.result c.args.self.now c.in-XPub.publisher c.recv-in-XPub.new.self c.in-XPub.is refl c.recv-in-XPub.ensures.step

pub returns-in-XPub-clause-places : goal.returns-in-XPub-clause-places
returns-in-XPub-clause-places g c = subst (λ (q : AnySock). HaveSamePlaces (peer_places q) (peer_places (sock.XPub c.recv-in-XPub.new.self))) (sym c.in-XPub.is) (same_as _ _ c.recv-in-XPub.ensures.same.peers)

pub recv-requires-in-XPub : goal.recv-requires-in-XPub
recv-requires-in-XPub g c = record { there = subst (λ (q : AnySock). All (g.E.Peers.here c.args.peers.now) (peer_places q)) c.in-XPub.is c.requires.there }

pub returns-in-XPub-clause-keeps : goal.returns-in-XPub-clause-keeps
returns-in-XPub-clause-keeps g c = c.recv-in-XPub.ensures.keeps

pub recv-requires-in-Sub : goal.recv-requires-in-Sub
recv-requires-in-Sub g c = record {
  there = all_front (g.E.Peers.here c.args.peers.now) c.in-Sub.subscriber.ins (keys_of c.in-Sub.subscriber.followers) (subst (λ (q : AnySock). All (g.E.Peers.here c.args.peers.now) (peer_places q)) c.in-Sub.is c.requires.there);
}

pub returns-in-Sub-clause-step : goal.returns-in-Sub-clause-step
returns-in-Sub-clause-step g c = sub_got _ _ _ _ _ _ c.recv-in-Sub.result c.args.self.now c.in-Sub.subscriber c.recv-in-Sub.new.self c.in-Sub.is c.recv-in-Sub.ensures.step

pub returns-in-Sub-clause-places : goal.returns-in-Sub-clause-places
returns-in-Sub-clause-places g c = subst (λ (q : AnySock). HaveSamePlaces (peer_places q) (peer_places (sock.Sub c.recv-in-Sub.new.self))) (sym c.in-Sub.is)
    (same_both _ _ _ _ c.recv-in-Sub.ensures.places (order_as _ _ (ap keys_of c.recv-in-Sub.ensures.same.followers_are)))

pub returns-in-Sub-clause-keeps : goal.returns-in-Sub-clause-keeps
returns-in-Sub-clause-keeps g c = c.recv-in-Sub.ensures.keeps

pub recv-requires-in-XSub : goal.recv-requires-in-XSub
recv-requires-in-XSub g c = record {
  there = all_front (g.E.Peers.here c.args.peers.now) c.in-XSub.subscriber.ins (keys_of c.in-XSub.subscriber.followers) (subst (λ (q : AnySock). All (g.E.Peers.here c.args.peers.now) (peer_places q)) c.in-XSub.is c.requires.there);
}

pub returns-in-XSub-clause-step : goal.returns-in-XSub-clause-step
returns-in-XSub-clause-step g c = xsub_got _ _ _ _ _ _ c.recv-in-XSub.result c.args.self.now c.in-XSub.subscriber c.recv-in-XSub.new.self c.in-XSub.is refl c.recv-in-XSub.ensures.step

pub returns-in-XSub-clause-places : goal.returns-in-XSub-clause-places
returns-in-XSub-clause-places g c = subst (λ (q : AnySock). HaveSamePlaces (peer_places q) (peer_places (sock.XSub c.recv-in-XSub.new.self))) (sym c.in-XSub.is)
    (same_both _ _ _ _ c.recv-in-XSub.ensures.places (order_as _ _ (ap keys_of c.recv-in-XSub.ensures.same.followers_are)))

pub returns-in-XSub-clause-keeps : goal.returns-in-XSub-clause-keeps
returns-in-XSub-clause-keeps g c = c.recv-in-XSub.ensures.keeps
