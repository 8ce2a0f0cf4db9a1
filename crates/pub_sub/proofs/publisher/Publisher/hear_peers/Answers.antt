use Rattle.std.proofs.Common.{All, ap, sym, subst}
use Rattle.pub_sub.specs.Publishers.{meant}
use Rattle.pub_sub.proofs.HearLemmas.{KeepsPeers-meant, KeepsPeers-on, HearsPeers-after, StopsHearing-after, StopsHearing-before}
use Rattle.pub_sub.proofs.KnownLemmas.{on_err}
use Rattle.pub_sub.proofs.publisher.Publisher.hear_peers.Goals as goal

pub returns-in_err-obey_kept-clause-memory : goal.returns-in_err-obey_kept-clause-memory
returns-in_err-obey_kept-clause-memory g c =
    on_err c.from_residual.result _
    (StopsHearing-before g.E.Peers.runs (g.E.Peers.end_at c.args.peers.now) c.args.peers.now c.args.peers.now c.args.self.now c.args.self.now c.obey_kept.new.self
    (g.met.E.Peers.runs_none c.args.peers.now) (ap (meant (g.E.Peers.end_at c.args.peers.now)) c.in_err-obey_kept.ensures.err))

pub hear-requires-clause-there : goal.hear-requires-clause-there
hear-requires-clause-there g c =
    subst (All (g.E.Peers.here c.args.peers.now)) (sym (KeepsPeers-meant (g.E.Peers.end_at c.args.peers.now) c.args.self.now c.obey_kept.new.self c.in_ok-obey_kept.ensures.ok).peers) c.requires.there

pub returns-in_err-_most-clause-memory : goal.returns-in_err-_most-clause-memory
returns-in_err-_most-clause-memory g c =
    on_err c.from_residual-in_err-_most.result _
    (StopsHearing-after g.E.Peers.runs (g.E.Peers.end_at c.args.peers.now) c.args.peers.now c.hear.new.peers c.args.self.now c.obey_kept.new.self c.hear.new.self
    c.in_ok-obey_kept.ensures.ok c.in_err-_most.ensures.memory)

pub returns-in_err-_most-clause-same : goal.returns-in_err-_most-clause-same
returns-in_err-_most-clause-same g c =
    KeepsPeers-on c.args.self.now c.obey_kept.new.self c.hear.new.self
    (KeepsPeers-meant (g.E.Peers.end_at c.args.peers.now) c.args.self.now c.obey_kept.new.self c.in_ok-obey_kept.ensures.ok) c.in_err-_most.ensures.same

pub returns-clause-heard : goal.returns-clause-heard
returns-clause-heard g c =
    HearsPeers-after g.E.Peers.runs (g.E.Peers.end_at c.args.peers.now) c.args.peers.now c.hear.new.peers c.args.self.now c.obey_kept.new.self c.hear.new.self
    c.in_ok-_most._most c.in_ok-obey_kept.ensures.ok c.in_ok-_most.ensures.heard

pub returns-clause-same : goal.returns-clause-same
returns-clause-same g c =
    KeepsPeers-on c.args.self.now c.obey_kept.new.self c.hear.new.self
    (KeepsPeers-meant (g.E.Peers.end_at c.args.peers.now) c.args.self.now c.obey_kept.new.self c.in_ok-obey_kept.ensures.ok) c.in_ok-_most.ensures.same
