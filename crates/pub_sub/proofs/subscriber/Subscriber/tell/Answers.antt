use Rattle.std.proofs.Common.{subst}
use Rattle.pub_sub.specs.Subscribing.{SubState, TellsPeers}
use Rattle.pub_sub.proofs.SubscriberLemmas.{TellsPeers-none}
use Rattle.pub_sub.proofs.subscriber.Subscriber.tell.Goals as goal

pub returns-then-self-clause-told : goal.returns-then-self-clause-told
returns-then-self-clause-told g c =
    let ends = g.E.Peers.end_at c.args.peers.now in
    subst (λ (s : SubState). TellsPeers g.E.Peers.runs ends (g.E.Peers.writable c.args.peers.now) c.args.peers.now c.args.peers.now s s) c.self.view_is
    (TellsPeers-none g.E.Peers.runs ends (g.E.Peers.writable c.args.peers.now) c.args.peers.now c.self.inside.ins c.self.inside.wanted c.self.inside.followers.items
    (g.met.E.Peers.runs_none c.args.peers.now) (c.self.invariant.none_left c.if-self.true))
