use Rattle.zq_base.specs.declared.kind.Kind.TheVariants.{Pull}
use Rattle.spec_pattern.proofs.ResultsLemmas.{MatchRecv-as}
use Rattle.spec_pattern.specs.AtPlaces.{Receives}
use Rattle.pub_sub.specs.Followers.{rows_of}
use Rattle.pub_sub.specs.Subscribing.{SubState}
use Rattle.pub_sub.specs.XSubs.{XSubGives}
use Rattle.pub_sub.proofs.XSubLemmas.{XSubGives-received}
use Rattle.pub_sub.proofs.subscriber.Subscriber.recv_all.Goals as goal

pub returns-clause-step : goal.returns-clause-step
returns-clause-step g c =
    let ends = g.E.Peers.end_at c.args.peers.now in
    let s0 : SubState = record { ins = c.self.inside.ins; wanted = c.self.inside.wanted; followers = rows_of c.self.inside.followers.items } in
    let s' : SubState = record { ins = c.receive_by_turn.new.turns; wanted = c.self.inside.wanted; followers = rows_of c.self.inside.followers.items } in
    MatchRecv-as ⊥ (λ answer. Receives g.E.Peers.runs ends Pull c.args.peers.now c.receive_by_turn.new.peers s0.ins answer c.receive_by_turn.new.turns)
    (λ answer. XSubGives g.E.Peers.runs ends c.args.peers.now c.receive_by_turn.new.peers c.args.self.now answer s') c.receive_by_turn.result
    (λ answer h. XSubGives-received g.E.Peers.runs ends c.args.peers.now c.receive_by_turn.new.peers s0 c.args.self.now c.receive_by_turn.new.turns answer c.self.view_is h)
    c.receive_by_turn.ensures.step
