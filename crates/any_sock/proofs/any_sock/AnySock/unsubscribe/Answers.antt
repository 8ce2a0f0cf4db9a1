use Rattle.std.proofs.Common.{All, sym, subst, refl}
use Rattle.std.specs.Map.{keys_of}
use Rattle.spec_pattern.specs.PatternCalls.{Unsubscribe}
use Rattle.msg_pipe.proofs.PlacesLemmas.{keeps_none}
use Rattle.any_sock.specs.Over.{HaveSamePlaces, peer_places}
use Rattle.any_sock.specs.declared.any_sock.AnySock.{AnySock}
use Rattle.any_sock.specs.declared.any_sock.AnySock.TheVariants as sock
use Rattle.any_sock.proofs.PlaceLemmas.{all_behind, same_as, same_followers}
use Rattle.any_sock.proofs.ChangeLemmas.{sub_changed, xsub_changed, no_topics}
use Rattle.any_sock.proofs.any_sock.AnySock.unsubscribe.Goals as goal

pub unsubscribe-requires : goal.unsubscribe-requires
unsubscribe-requires g c = record {
  there = all_behind (g.E.Peers.here c.args.peers.now) c.in-Sub.subscriber.ins (keys_of c.in-Sub.subscriber.followers) (subst (λ (q : AnySock). All (g.E.Peers.here c.args.peers.now) (peer_places q)) c.in-Sub.is c.requires.there);
}

pub returns-in-Sub-clause-step : goal.returns-in-Sub-clause-step
returns-in-Sub-clause-step g c =
    sub_changed g.E.Peers.runs (g.E.Peers.end_at c.args.peers.now) (g.E.Peers.writable c.args.peers.now) Unsubscribe c.args.topic.now c.args.peers.now c.unsubscribe.new.peers
    c.in-Sub.subscriber c.unsubscribe.new.self g.met.E.Peers.runs_on c.of_subscriber.result c.unsubscribe.result c.args.self.now c.of_subscriber.ensures c.in-Sub.is c.unsubscribe.ensures.step

pub returns-in-Sub-clause-places : goal.returns-in-Sub-clause-places
returns-in-Sub-clause-places g c = subst (λ (q : AnySock). HaveSamePlaces (peer_places q) (peer_places (sock.Sub c.unsubscribe.new.self))) (sym c.in-Sub.is) (same_followers _ _ c.unsubscribe.ensures.same)

pub unsubscribe-requires-in-XSub : goal.unsubscribe-requires-in-XSub
unsubscribe-requires-in-XSub g c = record {
  there = all_behind (g.E.Peers.here c.args.peers.now) c.in-XSub.subscriber.ins (keys_of c.in-XSub.subscriber.followers) (subst (λ (q : AnySock). All (g.E.Peers.here c.args.peers.now) (peer_places q)) c.in-XSub.is c.requires.there);
}

pub returns-in-XSub-clause-step : goal.returns-in-XSub-clause-step
returns-in-XSub-clause-step g c =
    xsub_changed g.E.Peers.runs (g.E.Peers.end_at c.args.peers.now) (g.E.Peers.writable c.args.peers.now) Unsubscribe c.args.topic.now c.args.peers.now c.unsubscribe-in-XSub.new.peers
    c.in-XSub.subscriber c.unsubscribe-in-XSub.new.self g.met.E.Peers.runs_on c.of_subscriber-in-XSub.result c.unsubscribe-in-XSub.result c.args.self.now c.of_subscriber-in-XSub.ensures c.in-XSub.is c.unsubscribe-in-XSub.ensures.step

pub returns-in-XSub-clause-places : goal.returns-in-XSub-clause-places
returns-in-XSub-clause-places g c = subst (λ (q : AnySock). HaveSamePlaces (peer_places q) (peer_places (sock.XSub c.unsubscribe-in-XSub.new.self))) (sym c.in-XSub.is) (same_followers _ _ c.unsubscribe-in-XSub.ensures.same)

pub returns-in_default : goal.returns-in_default
returns-in_default g c = record {
  step = no_topics g.E.Peers.runs (g.E.Peers.end_at c.args.peers.now) (g.E.Peers.writable c.args.peers.now) Unsubscribe c.args.topic.now c.args.peers.now c.args.self.now
      c.in_default.not-Sub c.in_default.not-XSub (g.met.E.Peers.runs_none c.args.peers.now);
  places = same_as _ _ refl;
  left = refl;
  keeps = keeps_none g.E.Peers.here g.E.Peers.end_at g.E.Peers.writable c.args.peers.now;
}
