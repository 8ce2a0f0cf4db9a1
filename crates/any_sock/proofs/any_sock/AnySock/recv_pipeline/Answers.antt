use Rattle.std.proofs.Common.{All, sym, subst, refl}
use Rattle.any_sock.specs.Over.{HaveSamePlaces, peer_places}
use Rattle.any_sock.specs.declared.any_sock.AnySock.{AnySock}
use Rattle.any_sock.proofs.PlaceLemmas.{same_by_order, same_as}
use Rattle.any_sock.proofs.RecvLemmas.{push_got, pull_got, pair_got}
use Rattle.any_sock.proofs.any_sock.AnySock.recv_pipeline.Goals as goal

pub returns-in-Push-clause-step : goal.returns-in-Push-clause-step
returns-in-Push-clause-step g c = λ told. push_got _ _ _ _ _ _ c.recv.result c.args.self.now c.in-Push.push c.recv.new.self c.in-Push.is refl c.recv.ensures.step

pub returns-in-Push-clause-places : goal.returns-in-Push-clause-places
returns-in-Push-clause-places g c = subst (λ (q : AnySock). HaveSamePlaces (peer_places q) c.recv.new.self) (sym c.in-Push.is) (same_as _ _ c.recv.ensures.turns)

pub returns-in-Pull-clause-step : goal.returns-in-Pull-clause-step
returns-in-Pull-clause-step g c = λ told. pull_got _ _ _ _ _ _ c.recv-in-Pull.result c.args.self.now c.in-Pull.pull c.recv-in-Pull.new.self c.in-Pull.is refl c.recv-in-Pull.ensures.step

pub returns-in-Pull-clause-places : goal.returns-in-Pull-clause-places
returns-in-Pull-clause-places g c = subst (λ (q : AnySock). HaveSamePlaces (peer_places q) c.recv-in-Pull.new.self) (sym c.in-Pull.is) (same_by_order _ _ c.recv-in-Pull.ensures.places)

pub recv-requires-in-Pull : goal.recv-requires-in-Pull
recv-requires-in-Pull g c = record { there = subst (λ (q : AnySock). All (g.E.Peers.here c.args.peers.now) (peer_places q)) c.in-Pull.is c.requires.there }

pub returns-in-Pull-clause-keeps : goal.returns-in-Pull-clause-keeps
returns-in-Pull-clause-keeps g c = c.recv-in-Pull.ensures.keeps

pub returns-in-Pair-clause-step : goal.returns-in-Pair-clause-step
returns-in-Pair-clause-step g c = λ told. pair_got _ _ _ _ _ _ c.recv-in-Pair.result c.args.self.now c.in-Pair.pair c.recv-in-Pair.new.self c.in-Pair.is c.recv-in-Pair.ensures.peer refl c.recv-in-Pair.ensures.step

pub returns-in-Pair-clause-places : goal.returns-in-Pair-clause-places
returns-in-Pair-clause-places g c = subst (λ (q : AnySock). HaveSamePlaces (peer_places q) c.recv-in-Pair.new.self) (sym c.in-Pair.is) (same_as _ _ c.recv-in-Pair.ensures.peer)

pub recv-requires-in-Pair : goal.recv-requires-in-Pair
recv-requires-in-Pair g c = record { there = subst (λ (q : AnySock). All (g.E.Peers.here c.args.peers.now) (peer_places q)) c.in-Pair.is c.requires.there }

pub returns-in-Pair-clause-keeps : goal.returns-in-Pair-clause-keeps
returns-in-Pair-clause-keeps g c = c.recv-in-Pair.ensures.keeps
