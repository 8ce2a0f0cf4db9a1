use Rattle.std.proofs.Common.{◌++◌, All, Contains, sym, ap, subst, map, ◌≡◌}
use Rattle.std.proofs.lemmas.List.Elements.{All-contains_itself, All-nil}
use Rattle.any_sock.specs.Over.{HaveSamePlaces, peer_places, partner_places, left_of}
use Rattle.any_sock.specs.declared.any_sock.AnySock.{AnySock}
use Rattle.any_sock.specs.declared.any_sock.AnySock.TheVariants as sock
use Rattle.any_sock.proofs.PlaceLemmas.{all_front, all_behind, same_as, same_both, order_as, partner_among}
use Rattle.any_sock.proofs.SendLemmas.{passes, passes_back, dealer_sent, req_sent, rep_sent, router_sent, router_back}
use Rattle.any_sock.proofs.any_sock.AnySock.send_request_reply.Goals as goal

pub send-requires : goal.send-requires
send-requires g c = record {
  there = all_front (g.E.Peers.here c.args.peers.now) c.in-Dealer.dealer.outs c.in-Dealer.dealer.ins (subst (λ (q : AnySock). All (g.E.Peers.here c.args.peers.now) (peer_places q)) c.in-Dealer.is c.requires.there);
}

pub returns-in-Dealer-clause-step : goal.returns-in-Dealer-clause-step
returns-in-Dealer-clause-step g c = passes c.passed_on.result c.send.result _ _ _ c.passed_on.ensures (dealer_sent _ _ _ _ _ _ c.send.result c.args.self.now c.in-Dealer.dealer c.send.new.self c.in-Dealer.is c.send.ensures.ins c.send.ensures.step)

pub returns-in-Dealer-clause-places : goal.returns-in-Dealer-clause-places
returns-in-Dealer-clause-places g c = subst (λ (q : AnySock). HaveSamePlaces (peer_places q) (peer_places (sock.Dealer c.send.new.self))) (sym c.in-Dealer.is) (same_both _ _ _ _ c.send.ensures.places (order_as _ _ c.send.ensures.ins))

pub returns-in-Dealer-clause-back : goal.returns-in-Dealer-clause-back
returns-in-Dealer-clause-back g c = passes_back c.passed_on.result c.send.result _ c.passed_on.ensures c.send.ensures.back

pub send-requires-in-Req : goal.send-requires-in-Req
send-requires-in-Req g c = record {
  there = all_front (g.E.Peers.here c.args.peers.now) c.in-Req.req.outs c.in-Req.req.ins (subst (λ (q : AnySock). All (g.E.Peers.here c.args.peers.now) (peer_places q)) c.in-Req.is c.requires.there);
}

pub returns-in-Req-clause-step : goal.returns-in-Req-clause-step
returns-in-Req-clause-step g c = passes c.passed_on-in-Req.result c.send-in-Req.result _ _ _ c.passed_on-in-Req.ensures (req_sent _ _ _ _ _ _ c.send-in-Req.result c.args.self.now c.in-Req.req c.send-in-Req.new.self c.in-Req.is c.send-in-Req.ensures.ins c.send-in-Req.ensures.step)

pub returns-in-Req-clause-places : goal.returns-in-Req-clause-places
returns-in-Req-clause-places g c = subst (λ (q : AnySock). HaveSamePlaces (peer_places q) (peer_places (sock.Req c.send-in-Req.new.self))) (sym c.in-Req.is) (same_both _ _ _ _ c.send-in-Req.ensures.places (order_as _ _ c.send-in-Req.ensures.ins))

pub returns-in-Req-clause-back : goal.returns-in-Req-clause-back
returns-in-Req-clause-back g c = passes_back c.passed_on-in-Req.result c.send-in-Req.result _ c.passed_on-in-Req.ensures c.send-in-Req.ensures.back

pub returns-in-Req-clause-partner : goal.returns-in-Req-clause-partner
returns-in-Req-clause-partner g c =
    let peers = c.in-Req.req.outs ++ c.in-Req.req.ins in
    subst (λ (q : AnySock). All (Contains (peer_places q)) (partner_places q)) (sym c.in-Req.is)
    (partner_among peers c.in-Req.req.ins c.in-Req.req.asked (all_behind (Contains peers) c.in-Req.req.outs c.in-Req.req.ins (All-contains_itself peers)) c.send-in-Req.ensures.partner)

pub returns-in-Rep-clause-step : goal.returns-in-Rep-clause-step
returns-in-Rep-clause-step g c = passes c.passed_on-in-Rep.result c.send-in-Rep.result _ _ _ c.passed_on-in-Rep.ensures (rep_sent _ _ _ _ _ _ c.send-in-Rep.result c.args.self.now c.in-Rep.rep c.send-in-Rep.new.self c.in-Rep.is c.send-in-Rep.ensures.ins c.send-in-Rep.ensures.step)

pub returns-in-Rep-clause-places : goal.returns-in-Rep-clause-places
returns-in-Rep-clause-places g c = subst (λ (q : AnySock). HaveSamePlaces (peer_places q) (peer_places (sock.Rep c.send-in-Rep.new.self))) (sym c.in-Rep.is) (same_as _ _ c.send-in-Rep.ensures.ins)

pub returns-in-Rep-clause-back : goal.returns-in-Rep-clause-back
returns-in-Rep-clause-back g c = passes_back c.passed_on-in-Rep.result c.send-in-Rep.result _ c.passed_on-in-Rep.ensures c.send-in-Rep.ensures.back

pub returns-in-Rep-clause-partner : goal.returns-in-Rep-clause-partner
returns-in-Rep-clause-partner g c =
    subst (λ (q : AnySock). All (Contains (peer_places q)) (partner_places q)) (sym c.in-Rep.is)
    (partner_among c.in-Rep.rep.ins c.in-Rep.rep.ins c.in-Rep.rep.owed (All-contains_itself c.in-Rep.rep.ins) c.send-in-Rep.ensures.partner)

pub send-requires-in-Rep : goal.send-requires-in-Rep
send-requires-in-Rep g c = record { there = subst (λ (q : AnySock). All (g.E.Peers.here c.args.peers.now) (peer_places q)) c.in-Rep.is c.requires.there }

pub returns-in-Rep-clause-keeps : goal.returns-in-Rep-clause-keeps
returns-in-Rep-clause-keeps g c = c.send-in-Rep.ensures.keeps

pub send-requires-in-Router : goal.send-requires-in-Router
send-requires-in-Router g c = record {
  there = all_front (g.E.Peers.here c.args.peers.now) c.in-Router.router.ins (map (λ n. n.place) c.in-Router.router.names) (subst (λ (q : AnySock). All (g.E.Peers.here c.args.peers.now) (peer_places q)) c.in-Router.is c.requires.there);
}

pub returns-in-Router-clause-step : goal.returns-in-Router-clause-step
returns-in-Router-clause-step g c =
    passes c.passed_on-in-Router.result c.send-in-Router.result _ _ _ c.passed_on-in-Router.ensures
    (router_sent _ _ _ _ _ _ c.in-Router.router c.send-in-Router.new.self c.send-in-Router.ensures.same c.send-in-Router.result c.args.self.now c.in-Router.is c.send-in-Router.ensures.sends)

pub returns-in-Router-clause-back : goal.returns-in-Router-clause-back
returns-in-Router-clause-back g c = passes_back c.passed_on-in-Router.result c.send-in-Router.result _ c.passed_on-in-Router.ensures (router_back _ _ _ _ _ _ c.in-Router.router c.send-in-Router.result c.send-in-Router.ensures.sends)

pub returns-in-Router-clause-places : goal.returns-in-Router-clause-places
returns-in-Router-clause-places g c = subst (λ (q : AnySock). HaveSamePlaces (peer_places q) (peer_places (sock.Router c.send-in-Router.new.self))) (sym c.in-Router.is) (same_as _ _ (ap (λ q. peer_places (sock.Router q)) c.send-in-Router.ensures.same))

pub returns-in-Router-clause-keeps : goal.returns-in-Router-clause-keeps
returns-in-Router-clause-keeps g c = c.send-in-Router.ensures.keeps

pub returns-in-Dealer-clause-keeps : goal.returns-in-Dealer-clause-keeps
returns-in-Dealer-clause-keeps g c = c.send.ensures.keeps

pub returns-in-Dealer-clause-left : goal.returns-in-Dealer-clause-left
returns-in-Dealer-clause-left g c = sym (ap left_of c.in-Dealer.is)

pub returns-in-Dealer-clause-partner : goal.returns-in-Dealer-clause-partner
returns-in-Dealer-clause-partner g c = subst (λ (q : AnySock). All (Contains (peer_places q)) (partner_places q)) (sym c.in-Dealer.is) (All-nil _)

pub returns-in-Req-clause-keeps : goal.returns-in-Req-clause-keeps
returns-in-Req-clause-keeps g c = c.send-in-Req.ensures.keeps

pub returns-in-Req-clause-left : goal.returns-in-Req-clause-left
returns-in-Req-clause-left g c = sym (ap left_of c.in-Req.is)

pub returns-in-Rep-clause-left : goal.returns-in-Rep-clause-left
returns-in-Rep-clause-left g c = sym (ap left_of c.in-Rep.is)

pub returns-in-Router-clause-left : goal.returns-in-Router-clause-left
returns-in-Router-clause-left g c = subst (λ (q : AnySock). left_of (sock.Router c.send-in-Router.new.self) ≡ left_of q) (sym c.in-Router.is) (ap (λ r. left_of (sock.Router r)) c.send-in-Router.ensures.same)

pub returns-in-Router-clause-partner : goal.returns-in-Router-clause-partner
returns-in-Router-clause-partner g c = subst (λ (q : AnySock). All (Contains (peer_places q)) (partner_places q)) (sym c.in-Router.is) (All-nil _)
