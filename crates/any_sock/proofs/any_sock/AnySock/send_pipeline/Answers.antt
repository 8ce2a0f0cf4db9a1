use Rattle.std.proofs.lemmas.List.Elements.{All-nil}
use Rattle.std.proofs.Common.{sym, subst, All, ap, Contains}
use Rattle.any_sock.specs.Over.{HaveSamePlaces, peer_places, partner_places, left_of}
use Rattle.any_sock.specs.declared.any_sock.AnySock.{AnySock}
use Rattle.any_sock.proofs.PlaceLemmas.{same_by_order, same_as}
use Rattle.any_sock.proofs.SendLemmas.{passes, passes_back, push_sent, pull_sent, pair_sent}
use Rattle.any_sock.proofs.any_sock.AnySock.send_pipeline.Goals as goal

pub returns-in-Push-clause-step : goal.returns-in-Push-clause-step
returns-in-Push-clause-step g c = passes c.passed_on.result c.send.result _ _ _ c.passed_on.ensures (push_sent _ _ _ _ _ _ c.send.result c.args.self.now c.in-Push.push c.send.new.self c.in-Push.is c.send.ensures.step)

pub returns-in-Push-clause-places : goal.returns-in-Push-clause-places
returns-in-Push-clause-places g c = subst (λ (q : AnySock). HaveSamePlaces (peer_places q) c.send.new.self) (sym c.in-Push.is) (same_by_order _ _ c.send.ensures.places)

pub returns-in-Push-clause-back : goal.returns-in-Push-clause-back
returns-in-Push-clause-back g c = passes_back c.passed_on.result c.send.result _ c.passed_on.ensures c.send.ensures.back

pub returns-in-Push-clause-keeps : goal.returns-in-Push-clause-keeps
returns-in-Push-clause-keeps g c = c.send.ensures.keeps

pub returns-in-Pull-clause-step : goal.returns-in-Pull-clause-step
returns-in-Pull-clause-step g c = passes c.passed_on-in-Pull.result c.send-in-Pull.result _ _ _ c.passed_on-in-Pull.ensures (pull_sent _ _ _ _ _ _ c.send-in-Pull.result c.args.self.now c.in-Pull.pull c.send-in-Pull.new.self c.in-Pull.is c.send-in-Pull.ensures.step)

pub returns-in-Pull-clause-places : goal.returns-in-Pull-clause-places
returns-in-Pull-clause-places g c = subst (λ (q : AnySock). HaveSamePlaces (peer_places q) c.send-in-Pull.new.self) (sym c.in-Pull.is) (same_as _ _ c.send-in-Pull.ensures.turns)

pub returns-in-Pull-clause-back : goal.returns-in-Pull-clause-back
returns-in-Pull-clause-back g c = passes_back c.passed_on-in-Pull.result c.send-in-Pull.result _ c.passed_on-in-Pull.ensures c.send-in-Pull.ensures.back

pub returns-in-Pair-clause-step : goal.returns-in-Pair-clause-step
returns-in-Pair-clause-step g c = passes c.passed_on-in-Pair.result c.send-in-Pair.result _ _ _ c.passed_on-in-Pair.ensures (pair_sent _ _ _ _ _ _ c.send-in-Pair.result c.args.self.now c.in-Pair.pair c.send-in-Pair.new.self c.in-Pair.is c.send-in-Pair.ensures.peer c.send-in-Pair.ensures.step)

pub returns-in-Pair-clause-places : goal.returns-in-Pair-clause-places
returns-in-Pair-clause-places g c = subst (λ (q : AnySock). HaveSamePlaces (peer_places q) c.send-in-Pair.new.self) (sym c.in-Pair.is) (same_as _ _ c.send-in-Pair.ensures.peer)

pub returns-in-Pair-clause-back : goal.returns-in-Pair-clause-back
returns-in-Pair-clause-back g c = passes_back c.passed_on-in-Pair.result c.send-in-Pair.result _ c.passed_on-in-Pair.ensures c.send-in-Pair.ensures.back

pub send-requires : goal.send-requires
send-requires g c = record { there = subst (λ (q : AnySock). All (g.E.Peers.here c.args.peers.now) (peer_places q)) c.in-Push.is c.requires.there }

pub returns-in-Push-clause-left : goal.returns-in-Push-clause-left
returns-in-Push-clause-left g c = sym (ap left_of c.in-Push.is)

pub returns-in-Push-clause-partner : goal.returns-in-Push-clause-partner
returns-in-Push-clause-partner g c = subst (λ (q : AnySock). All (Contains (peer_places q)) (partner_places q)) (sym c.in-Push.is) (All-nil _)

pub returns-in-Pull-clause-left : goal.returns-in-Pull-clause-left
returns-in-Pull-clause-left g c = sym (ap left_of c.in-Pull.is)

pub returns-in-Pull-clause-partner : goal.returns-in-Pull-clause-partner
returns-in-Pull-clause-partner g c = subst (λ (q : AnySock). All (Contains (peer_places q)) (partner_places q)) (sym c.in-Pull.is) (All-nil _)

pub send-requires-in-Pair : goal.send-requires-in-Pair
send-requires-in-Pair g c = record { there = subst (λ (q : AnySock). All (g.E.Peers.here c.args.peers.now) (peer_places q)) c.in-Pair.is c.requires.there }

pub returns-in-Pair-clause-keeps : goal.returns-in-Pair-clause-keeps
returns-in-Pair-clause-keeps g c = c.send-in-Pair.ensures.keeps

pub returns-in-Pair-clause-left : goal.returns-in-Pair-clause-left
returns-in-Pair-clause-left g c = sym (ap left_of c.in-Pair.is)

pub returns-in-Pair-clause-partner : goal.returns-in-Pair-clause-partner
returns-in-Pair-clause-partner g c = subst (λ (q : AnySock). All (Contains (peer_places q)) (partner_places q)) (sym c.in-Pair.is) (All-nil _)
