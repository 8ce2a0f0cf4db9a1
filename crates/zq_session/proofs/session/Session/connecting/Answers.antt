use Rattle.std.proofs.Common.{true, Option, [], None, refl, ap, sym, subst}
use Rattle.spec_link.specs.Turn.{subscribes}
use Rattle.spec_link.specs.Topics.{Topics}
use Rattle.link_side.specs.Dials.{DiallerState}
use Rattle.zq_session.specs.Noting.{AreTopics}
use Rattle.zq_session.proofs.NotingLemmas.{topics_begin}
use Rattle.zq_session.proofs.SessionLemmas.{nothing_due, shaken_none}
use Rattle.zq_session.proofs.TallyLemmas.{tally_none}
use Rattle.zq_session.proofs.session.Session.connecting.Goals as goal

pub returns-clause-lived : goal.returns-clause-lived
returns-clause-lived g c =
    let e = c.new.ensures in (
      record { opts = c.args.opts; interval = c.args.interval; link = None; closed = []; dial_at = 0; dues = []; handed = [] },
      refl,
      refl,
      record {
        due = nothing_due _ c.none.result c.none.ensures;
        link = tt;
        dial = (ap (λ (x : DiallerState). x.opts) e, (ap (λ (x : DiallerState). x.interval) e, ap (λ (x : DiallerState). x.dial_at) e));
        kind_is = refl;
        topics = subst (λ (t : Option Topics). AreTopics true c.args.opts None [] [] t) (sym c.new_topics.ensures) (topics_begin c.args.opts (subscribes c.args.opts.kind) refl);
        tally = tally_none true c.args.opts c.none-tally.result c.none-tally.ensures;
      },
      record { given_is = nothing_due _ c.none-2.result c.none-2.ensures; peer = λ asked once. absurd (shaken_none c.none.result c.none.ensures asked) },
    )
