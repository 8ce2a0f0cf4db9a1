use Rattle.std.proofs.Common.{All, sym, ap, subst, map, refl}
use Rattle.any_sock.specs.Over.{HaveSamePlaces, peer_places}
use Rattle.any_sock.specs.declared.any_sock.AnySock.{AnySock}
use Rattle.any_sock.specs.declared.any_sock.AnySock.TheVariants as sock
use Rattle.any_sock.proofs.PlaceLemmas.{all_front, all_behind, same_by_order, same_both, order_as}
use Rattle.any_sock.proofs.RecvLemmas.{dealer_got, req_got, rep_got, router_got}
use Rattle.any_sock.proofs.any_sock.AnySock.recv_request_reply.Goals as goal

pub recv-requires : goal.recv-requires
recv-requires g c = record {
  there = all_behind (g.E.Peers.here c.args.peers.now) c.in-Dealer.dealer.outs c.in-Dealer.dealer.ins (subst (λ (q : AnySock). All (g.E.Peers.here c.args.peers.now) (peer_places q)) c.in-Dealer.is c.requires.there);
}

pub returns-in-Dealer-clause-step : goal.returns-in-Dealer-clause-step
returns-in-Dealer-clause-step g c = dealer_got _ _ _ _ _ _ c.recv.result c.args.self.now c.in-Dealer.dealer c.recv.new.self c.in-Dealer.is c.recv.ensures.outs refl c.recv.ensures.step

pub returns-in-Dealer-clause-places : goal.returns-in-Dealer-clause-places
returns-in-Dealer-clause-places g c = subst (λ (q : AnySock). HaveSamePlaces (peer_places q) (peer_places (sock.Dealer c.recv.new.self))) (sym c.in-Dealer.is) (same_both _ _ _ _ (order_as _ _ c.recv.ensures.outs) c.recv.ensures.places)

pub recv-requires-in-Req : goal.recv-requires-in-Req
recv-requires-in-Req g c = record {
  there = all_behind (g.E.Peers.here c.args.peers.now) c.in-Req.req.outs c.in-Req.req.ins (subst (λ (q : AnySock). All (g.E.Peers.here c.args.peers.now) (peer_places q)) c.in-Req.is c.requires.there);
}

pub returns-in-Req-clause-step : goal.returns-in-Req-clause-step
returns-in-Req-clause-step g c = req_got _ _ _ _ _ _ c.recv-in-Req.result c.args.self.now c.in-Req.req c.recv-in-Req.new.self c.in-Req.is c.recv-in-Req.ensures.outs c.recv-in-Req.ensures.step

pub returns-in-Req-clause-places : goal.returns-in-Req-clause-places
returns-in-Req-clause-places g c = subst (λ (q : AnySock). HaveSamePlaces (peer_places q) (peer_places (sock.Req c.recv-in-Req.new.self))) (sym c.in-Req.is) (same_both _ _ _ _ (order_as _ _ c.recv-in-Req.ensures.outs) c.recv-in-Req.ensures.places)

pub returns-in-Req-clause-keeps : goal.returns-in-Req-clause-keeps
returns-in-Req-clause-keeps g c = c.recv-in-Req.ensures.keeps

pub returns-in-Rep-clause-step : goal.returns-in-Rep-clause-step
returns-in-Rep-clause-step g c = rep_got _ _ _ _ _ _ c.recv-in-Rep.result c.args.self.now c.in-Rep.rep c.recv-in-Rep.new.self c.in-Rep.is c.recv-in-Rep.ensures.step

pub returns-in-Rep-clause-places : goal.returns-in-Rep-clause-places
returns-in-Rep-clause-places g c = subst (λ (q : AnySock). HaveSamePlaces (peer_places q) (peer_places (sock.Rep c.recv-in-Rep.new.self))) (sym c.in-Rep.is) (same_by_order _ _ c.recv-in-Rep.ensures.places)

pub recv-requires-in-Router : goal.recv-requires-in-Router
recv-requires-in-Router g c = record {
  there = all_front (g.E.Peers.here c.args.peers.now) c.in-Router.router.ins (map (λ n. n.place) c.in-Router.router.names) (subst (λ (q : AnySock). All (g.E.Peers.here c.args.peers.now) (peer_places q)) c.in-Router.is c.requires.there);
}

pub returns-in-Router-clause-step : goal.returns-in-Router-clause-step
returns-in-Router-clause-step g c =
    router_got _ _ _ _ _ _ refl c.in-Router.router c.recv-in-Router.new.self c.recv-in-Router.ensures.names c.recv-in-Router.ensures.drawn c.recv-in-Router.ensures.mandatory c.recv-in-Router.result c.args.self.now c.in-Router.is c.recv-in-Router.ensures.receives

pub returns-in-Router-clause-places : goal.returns-in-Router-clause-places
returns-in-Router-clause-places g c = subst (λ (q : AnySock). HaveSamePlaces (peer_places q) (peer_places (sock.Router c.recv-in-Router.new.self))) (sym c.in-Router.is)
    (same_both _ _ _ _ c.recv-in-Router.ensures.places (order_as _ _ (ap (λ l. map (λ n. n.place) l) c.recv-in-Router.ensures.names)))

pub returns-in-Router-clause-keeps : goal.returns-in-Router-clause-keeps
returns-in-Router-clause-keeps g c = c.recv-in-Router.ensures.keeps

pub returns-in-Dealer-clause-keeps : goal.returns-in-Dealer-clause-keeps
returns-in-Dealer-clause-keeps g c = c.recv.ensures.keeps

pub recv-requires-in-Rep : goal.recv-requires-in-Rep
recv-requires-in-Rep g c = record { there = subst (λ (q : AnySock). All (g.E.Peers.here c.args.peers.now) (peer_places q)) c.in-Rep.is c.requires.there }

pub returns-in-Rep-clause-keeps : goal.returns-in-Rep-clause-keeps
returns-in-Rep-clause-keeps g c = c.recv-in-Rep.ensures.keeps
