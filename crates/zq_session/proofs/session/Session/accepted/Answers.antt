use Rattle.std.proofs.Common.{false, [], Some, refl}
use Rattle.zq_session.proofs.NotingLemmas.{free_by, held_free}
use Rattle.zq_session.proofs.SessionLemmas.{nothing_due, shaken_none}
use Rattle.zq_session.proofs.UnputLemmas.{of_nothing}
use Rattle.zq_session.proofs.TallyLemmas.{tally_none, tally_given}
use Rattle.zq_session.proofs.session.Session.accepted.Goals as goal

pub returns-clause-lived : goal.returns-clause-lived
returns-clause-lived g c = (
  record { opts = c.args.opts; interval = 0; link = Some []; closed = []; dial_at = 0; dues = []; handed = [] },
  refl,
  refl,
  record {
    due = nothing_due _ c.none.result c.none.ensures;
    link = held_free c.args.opts [] c.in_ok-side.side.behind c.in_ok-side.side.kept (free_by c.in_ok-side.side.behind c.in_ok-side.ensures.rest) (of_nothing c.args.opts _ c.in_ok-side.ensures.run);
    dial = tt;
    kind_is = refl;
    topics = refl;
    tally = tally_given false c.args.opts [] c.none-tally.result c.begin.new.self c.begin.ensures (tally_none false c.args.opts c.none-tally.result c.none-tally.ensures);
  },
  record { given_is = nothing_due _ c.none-2.result c.none-2.ensures; peer = λ asked once. absurd (shaken_none c.none.result c.none.ensures asked) },
)
