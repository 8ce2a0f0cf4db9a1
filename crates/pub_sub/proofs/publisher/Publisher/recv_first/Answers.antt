use Rattle.std.proofs.Common.{ap}
use Rattle.pub_sub.specs.Publishers.{meant}
use Rattle.pub_sub.specs.Hearing.{in_hearing}
use Rattle.pub_sub.proofs.HearLemmas.{StopsHearing-before}
use Rattle.pub_sub.proofs.publisher.Publisher.recv_first.Goals as goal

pub returns-in-Err-clause-step : goal.returns-in-Err-clause-step
returns-in-Err-clause-step g c =
    in_hearing (StopsHearing-before g.E.Peers.runs (g.E.Peers.end_at c.args.peers.now) c.args.peers.now c.args.peers.now c.args.self.now c.args.self.now c.give.new.self
    (g.met.E.Peers.runs_none c.args.peers.now) (ap (meant (g.E.Peers.end_at c.args.peers.now)) c.in-Err.ensures.err))
