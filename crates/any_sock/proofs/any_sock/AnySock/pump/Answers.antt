use Rattle.std.proofs.Common.{All, sym, subst, refl}
use Rattle.std.specs.Map.{keys_of}
use Rattle.any_sock.specs.Over.{HaveSamePlaces, peer_places}
use Rattle.any_sock.specs.declared.any_sock.AnySock.{AnySock}
use Rattle.any_sock.specs.declared.any_sock.AnySock.TheVariants as sock
use Rattle.any_sock.proofs.PlaceLemmas.{all_behind, same_as, same_followers}
use Rattle.any_sock.proofs.PumpLemmas.{ok_as, err_as, pub_pumped, xpub_pumped, pub_stopped, xpub_stopped, sub_pumped, xsub_pumped, sub_stopped, xsub_stopped}
use Rattle.any_sock.proofs.any_sock.AnySock.pump.Goals as goal

pub returns-in-Pub-clause-ok : goal.returns-in-Pub-clause-ok
returns-in-Pub-clause-ok g c = ok_as c.hear_peers.result _ _ (pub_pumped _ _ _ _ _ c.args.self.now c.in-Pub.publisher c.hear_peers.new.self c.in-Pub.is) c.hear_peers.ensures.heard

pub returns-in-Pub-clause-err : goal.returns-in-Pub-clause-err
returns-in-Pub-clause-err g c = err_as c.hear_peers.result _ _ (pub_stopped _ _ (g.E.Peers.writable c.args.peers.now) _ _ c.args.self.now c.in-Pub.publisher c.hear_peers.new.self c.in-Pub.is) c.hear_peers.ensures.memory

pub returns-in-Pub-clause-places : goal.returns-in-Pub-clause-places
returns-in-Pub-clause-places g c = subst (λ (q : AnySock). HaveSamePlaces (peer_places q) (peer_places (sock.Pub c.hear_peers.new.self))) (sym c.in-Pub.is) (same_as _ _ c.hear_peers.ensures.same.peers)

pub returns-in-XPub-clause-ok : goal.returns-in-XPub-clause-ok
returns-in-XPub-clause-ok g c = ok_as c.hear_peers-in-XPub.result _ _ (xpub_pumped _ _ _ _ _ c.args.self.now c.in-XPub.publisher c.hear_peers-in-XPub.new.self c.in-XPub.is) c.hear_peers-in-XPub.ensures.heard

pub returns-in-XPub-clause-err : goal.returns-in-XPub-clause-err
returns-in-XPub-clause-err g c = err_as c.hear_peers-in-XPub.result _ _ (xpub_stopped _ _ (g.E.Peers.writable c.args.peers.now) _ _ c.args.self.now c.in-XPub.publisher c.hear_peers-in-XPub.new.self c.in-XPub.is) c.hear_peers-in-XPub.ensures.memory

pub returns-in-XPub-clause-places : goal.returns-in-XPub-clause-places
returns-in-XPub-clause-places g c = subst (λ (q : AnySock). HaveSamePlaces (peer_places q) (peer_places (sock.XPub c.hear_peers-in-XPub.new.self))) (sym c.in-XPub.is) (same_as _ _ c.hear_peers-in-XPub.ensures.same.peers)

pub returns-in_default-clause-places : goal.returns-in_default-clause-places
returns-in_default-clause-places g c = same_as _ _ refl

pub tell-requires : goal.tell-requires
tell-requires g c = record {
  there = all_behind (g.E.Peers.here c.args.peers.now) c.in-Sub.subscriber.ins (keys_of c.in-Sub.subscriber.followers) (subst (λ (q : AnySock). All (g.E.Peers.here c.args.peers.now) (peer_places q)) c.in-Sub.is c.requires.there);
}

pub returns-in-Sub-clause-ok : goal.returns-in-Sub-clause-ok
returns-in-Sub-clause-ok g c = ok_as c.tell.result _ _ (sub_pumped _ _ _ _ _ c.args.self.now c.in-Sub.subscriber c.tell.new.self c.in-Sub.is) c.tell.ensures.told

pub returns-in-Sub-clause-err : goal.returns-in-Sub-clause-err
returns-in-Sub-clause-err g c = err_as c.tell.result _ _ (sub_stopped _ _ _ _ _ c.args.self.now c.in-Sub.subscriber c.tell.new.self g.met.E.Peers.runs_on c.in-Sub.is) c.tell.ensures.memory

pub returns-in-Sub-clause-places : goal.returns-in-Sub-clause-places
returns-in-Sub-clause-places g c = subst (λ (q : AnySock). HaveSamePlaces (peer_places q) (peer_places (sock.Sub c.tell.new.self))) (sym c.in-Sub.is) (same_followers _ _ c.tell.ensures.same)

pub tell-requires-in-XSub : goal.tell-requires-in-XSub
tell-requires-in-XSub g c = record {
  there = all_behind (g.E.Peers.here c.args.peers.now) c.in-XSub.subscriber.ins (keys_of c.in-XSub.subscriber.followers) (subst (λ (q : AnySock). All (g.E.Peers.here c.args.peers.now) (peer_places q)) c.in-XSub.is c.requires.there);
}

pub returns-in-XSub-clause-ok : goal.returns-in-XSub-clause-ok
returns-in-XSub-clause-ok g c = ok_as c.tell-in-XSub.result _ _ (xsub_pumped _ _ _ _ _ c.args.self.now c.in-XSub.subscriber c.tell-in-XSub.new.self c.in-XSub.is) c.tell-in-XSub.ensures.told

pub returns-in-XSub-clause-err : goal.returns-in-XSub-clause-err
returns-in-XSub-clause-err g c = err_as c.tell-in-XSub.result _ _ (xsub_stopped _ _ _ _ _ c.args.self.now c.in-XSub.subscriber c.tell-in-XSub.new.self g.met.E.Peers.runs_on c.in-XSub.is) c.tell-in-XSub.ensures.memory

pub returns-in-XSub-clause-places : goal.returns-in-XSub-clause-places
returns-in-XSub-clause-places g c = subst (λ (q : AnySock). HaveSamePlaces (peer_places q) (peer_places (sock.XSub c.tell-in-XSub.new.self))) (sym c.in-XSub.is) (same_followers _ _ c.tell-in-XSub.ensures.same)

pub hear_peers-requires-in-XPub : goal.hear_peers-requires-in-XPub
hear_peers-requires-in-XPub g c = record { there = subst (λ (q : AnySock). All (g.E.Peers.here c.args.peers.now) (peer_places q)) c.in-XPub.is c.requires.there }

pub returns-in-XPub-clause-keeps : goal.returns-in-XPub-clause-keeps
returns-in-XPub-clause-keeps g c = c.hear_peers-in-XPub.ensures.keeps

pub returns-in-Sub-clause-keeps : goal.returns-in-Sub-clause-keeps
returns-in-Sub-clause-keeps g c = c.tell.ensures.keeps

pub returns-in-XSub-clause-keeps : goal.returns-in-XSub-clause-keeps
returns-in-XSub-clause-keeps g c = c.tell-in-XSub.ensures.keeps
