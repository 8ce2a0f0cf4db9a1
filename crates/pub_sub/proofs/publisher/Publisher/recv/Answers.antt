use Rattle.std.proofs.Common.{All, ap, sym, subst}
use Rattle.pub_sub.specs.Publishers.{meant}
use Rattle.pub_sub.specs.Hearing.{in_hearing}
use Rattle.pub_sub.proofs.HearLemmas.{KeepsPeers-meant, KeepsPeers-on, KeepsPeers-same, StopsHearing-before}
use Rattle.pub_sub.proofs.ReceiveLemmas.{receive-after}
use Rattle.pub_sub.proofs.publisher.Publisher.recv.Goals as goal

pub recv_first-requires-clause-there : goal.recv_first-requires-clause-there
recv_first-requires-clause-there g c =
    subst (All (g.E.Peers.here c.args.peers.now)) (sym (KeepsPeers-meant (g.E.Peers.end_at c.args.peers.now) c.args.self.now c.obey_kept.new.self c.in-Ok.ensures.ok).peers) c.requires.there

pub returns-in-Ok-clause-step : goal.returns-in-Ok-clause-step
returns-in-Ok-clause-step g c =
    receive-after g.E.Peers.runs (g.E.Peers.end_at c.args.peers.now) c.args.peers.now c.recv_first.new.peers c.args.self.now c.obey_kept.new.self c.recv_first.new.self
    c.recv_first.result c.in-Ok.ensures.ok c.recv_first.ensures.step

pub returns-in-Ok-clause-same : goal.returns-in-Ok-clause-same
returns-in-Ok-clause-same g c =
    KeepsPeers-on c.args.self.now c.obey_kept.new.self c.recv_first.new.self
    (KeepsPeers-meant (g.E.Peers.end_at c.args.peers.now) c.args.self.now c.obey_kept.new.self c.in-Ok.ensures.ok) c.recv_first.ensures.same

pub returns-in-Err-clause-step : goal.returns-in-Err-clause-step
returns-in-Err-clause-step g c =
    in_hearing (StopsHearing-before g.E.Peers.runs (g.E.Peers.end_at c.args.peers.now) c.args.peers.now c.args.peers.now c.args.self.now c.args.self.now c.obey_kept.new.self
    (g.met.E.Peers.runs_none c.args.peers.now) (ap (meant (g.E.Peers.end_at c.args.peers.now)) c.in-Err.ensures.err))

pub returns-in-Err-clause-same : goal.returns-in-Err-clause-same
returns-in-Err-clause-same g c = KeepsPeers-same c.args.self.now c.obey_kept.new.self c.in-Err.ensures.err
