use Rattle.std.proofs.lemmas.List.Elements.{All-nil}
use Rattle.std.proofs.Common.{All, sym, subst, refl, [], ap, Contains}
use Rattle.std.specs.Map.{keys_of}
use Rattle.any_sock.specs.Over.{HaveSamePlaces, peer_places, partner_places, left_of}
use Rattle.any_sock.specs.declared.any_sock.AnySock.{AnySock}
use Rattle.any_sock.specs.declared.any_sock.AnySock.TheVariants as sock
use Rattle.any_sock.proofs.PlaceLemmas.{all_behind, same_as, same_followers}
use Rattle.any_sock.proofs.SendLemmas.{passes, passes_back, pub_sent, xpub_sent, sub_sent, xsub_sent}
use Rattle.any_sock.proofs.any_sock.AnySock.send_publish_subscribe.Goals as goal

pub returns-in-Pub-clause-step : goal.returns-in-Pub-clause-step
returns-in-Pub-clause-step g c = passes c.passed_on.result c.send.result _ _ _ c.passed_on.ensures (pub_sent _ _ _ _ _ _ c.send.result c.args.self.now c.in-Pub.publisher c.in-Pub.is c.send.ensures.step)

pub returns-in-Pub-clause-places : goal.returns-in-Pub-clause-places
returns-in-Pub-clause-places g c = subst (λ (q : AnySock). HaveSamePlaces (peer_places q) (peer_places (sock.Pub c.in-Pub.publisher))) (sym c.in-Pub.is) (same_as _ _ refl)

pub returns-in-Pub-clause-back : goal.returns-in-Pub-clause-back
returns-in-Pub-clause-back g c = passes_back c.passed_on.result c.send.result _ c.passed_on.ensures c.send.ensures.back

pub returns-in-XPub-clause-step : goal.returns-in-XPub-clause-step
returns-in-XPub-clause-step g c = passes c.passed_on-in-XPub.result c.send-in-XPub.result _ _ _ c.passed_on-in-XPub.ensures (xpub_sent _ _ _ _ _ _ c.send-in-XPub.result c.args.self.now c.in-XPub.publisher c.in-XPub.is c.send-in-XPub.ensures.step)

pub returns-in-XPub-clause-places : goal.returns-in-XPub-clause-places
returns-in-XPub-clause-places g c = subst (λ (q : AnySock). HaveSamePlaces (peer_places q) (peer_places (sock.XPub c.in-XPub.publisher))) (sym c.in-XPub.is) (same_as _ _ refl)

pub returns-in-XPub-clause-back : goal.returns-in-XPub-clause-back
returns-in-XPub-clause-back g c = passes_back c.passed_on-in-XPub.result c.send-in-XPub.result _ c.passed_on-in-XPub.ensures c.send-in-XPub.ensures.back

pub send-requires-in-XPub : goal.send-requires-in-XPub
send-requires-in-XPub g c = record { there = subst (λ (q : AnySock). All (g.E.Peers.here c.args.peers.now) (peer_places q)) c.in-XPub.is c.requires.there }

pub returns-in-XPub-clause-keeps : goal.returns-in-XPub-clause-keeps
returns-in-XPub-clause-keeps g c = c.send-in-XPub.ensures.keeps

pub returns-in-Sub-clause-back : goal.returns-in-Sub-clause-back
returns-in-Sub-clause-back g c = passes_back c.passed_on-in-Sub.result c.send-in-Sub.result _ c.passed_on-in-Sub.ensures c.send-in-Sub.ensures.back

pub returns-in-Sub-clause-step : goal.returns-in-Sub-clause-step
returns-in-Sub-clause-step g c =
    passes c.passed_on-in-Sub.result c.send-in-Sub.result _ _ _ c.passed_on-in-Sub.ensures
    (sub_sent _ _ _ _ _ _ c.send-in-Sub.result c.args.self.now c.in-Sub.subscriber c.in-Sub.is
    (subst (λ t. g.E.Peers.runs c.args.peers.now [] t) (sym c.send-in-Sub.ensures.peers) (g.met.E.Peers.runs_none c.args.peers.now)) c.send-in-Sub.ensures.step)

pub returns-in-Sub-clause-places : goal.returns-in-Sub-clause-places
returns-in-Sub-clause-places g c = subst (λ (q : AnySock). HaveSamePlaces (peer_places q) (peer_places (sock.Sub c.in-Sub.subscriber))) (sym c.in-Sub.is) (same_as _ _ refl)

pub send-requires-in-XSub : goal.send-requires-in-XSub
send-requires-in-XSub g c = record {
  there = all_behind (g.E.Peers.here c.args.peers.now) c.in-XSub.subscriber.ins (keys_of c.in-XSub.subscriber.followers) (subst (λ (q : AnySock). All (g.E.Peers.here c.args.peers.now) (peer_places q)) c.in-XSub.is c.requires.there);
}

pub returns-in-XSub-clause-step : goal.returns-in-XSub-clause-step
returns-in-XSub-clause-step g c =
    xsub_sent g.E.Peers.runs (g.E.Peers.end_at c.args.peers.now) (g.E.Peers.writable c.args.peers.now) c.args.message c.args.peers.now c.send-in-XSub.new.peers c.in-XSub.subscriber c.send-in-XSub.new.self g.met.E.Peers.runs_on c.send-in-XSub.result c.args.self.now c.in-XSub.is c.send-in-XSub.ensures.step

pub returns-in-XSub-clause-places : goal.returns-in-XSub-clause-places
returns-in-XSub-clause-places g c = subst (λ (q : AnySock). HaveSamePlaces (peer_places q) (peer_places (sock.XSub c.send-in-XSub.new.self))) (sym c.in-XSub.is) (same_followers _ _ c.send-in-XSub.ensures.same)

pub send-requires : goal.send-requires
send-requires g c = record { there = subst (λ (q : AnySock). All (g.E.Peers.here c.args.peers.now) (peer_places q)) c.in-Pub.is c.requires.there }

pub returns-in-Pub-clause-keeps : goal.returns-in-Pub-clause-keeps
returns-in-Pub-clause-keeps g c = c.send.ensures.keeps

pub returns-in-Pub-clause-left : goal.returns-in-Pub-clause-left
returns-in-Pub-clause-left g c = sym (ap left_of c.in-Pub.is)

pub returns-in-Pub-clause-partner : goal.returns-in-Pub-clause-partner
returns-in-Pub-clause-partner g c = subst (λ (q : AnySock). All (Contains (peer_places q)) (partner_places q)) (sym c.in-Pub.is) (All-nil _)

pub returns-in-XPub-clause-left : goal.returns-in-XPub-clause-left
returns-in-XPub-clause-left g c = sym (ap left_of c.in-XPub.is)

pub returns-in-XPub-clause-partner : goal.returns-in-XPub-clause-partner
returns-in-XPub-clause-partner g c = subst (λ (q : AnySock). All (Contains (peer_places q)) (partner_places q)) (sym c.in-XPub.is) (All-nil _)

pub returns-in-Sub-clause-left : goal.returns-in-Sub-clause-left
returns-in-Sub-clause-left g c = sym (ap left_of c.in-Sub.is)

pub returns-in-Sub-clause-partner : goal.returns-in-Sub-clause-partner
returns-in-Sub-clause-partner g c = subst (λ (q : AnySock). All (Contains (peer_places q)) (partner_places q)) (sym c.in-Sub.is) (All-nil _)

pub returns-in-XSub-clause-keeps : goal.returns-in-XSub-clause-keeps
returns-in-XSub-clause-keeps g c = c.send-in-XSub.ensures.keeps

pub returns-in-XSub-clause-left : goal.returns-in-XSub-clause-left
returns-in-XSub-clause-left g c = sym (ap left_of c.in-XSub.is)

pub returns-in-XSub-clause-partner : goal.returns-in-XSub-clause-partner
returns-in-XSub-clause-partner g c = subst (λ (q : AnySock). All (Contains (peer_places q)) (partner_places q)) (sym c.in-XSub.is) (All-nil _)
