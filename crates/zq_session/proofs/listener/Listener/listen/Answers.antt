use Rattle.std.proofs.Common.{ap, true≢false}
use Rattle.std.specs.Prelude.{true, Some}
use Rattle.zq_session.specs.Accepts.{ListenerState}
use Rattle.zq_session.proofs.listener.Listener.listen.Goals as goal

pub returns-in-Listening-clause-listens : goal.returns-in-Listening-clause-listens
returns-in-Listening-clause-listens g c = record {
  good = true;
  after = ap (λ (l : ListenerState). record l.standing { listens = Some true }) c.self.view_is;
  failed = record { kept = c.in-Listening.ensures.faults.kept; rose = λ e. absurd (true≢false e) };
}
