use Rattle.zq_session.proofs.AtLemmas.{says_last, says_nothing}
use Rattle.zq_session.proofs.ShownLemmas.{shown_none, shown_write}
use Rattle.zq_session.proofs.ends.say_last.Goals as goal

pub returns-then-not-says-clause-says : goal.returns-then-not-says-clause-says
returns-then-not-says-clause-says g c = says_nothing c.args.says c.args.side.now.kept _ _ (shown_none _ _ _) c.if-not-says.true

pub returns-clause-says : goal.returns-clause-says
returns-clause-says g c =
    says_last c.args.says c.args.side.now.kept c.write_only.new.self.kept c.write_only.result _ _ _ (λ x. shown_write _ _ _ _ _ _ _ c.write_only.ensures.counts x) c.if-not-says.false c.write_only.ensures.writes
