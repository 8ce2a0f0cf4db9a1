use Rattle.std.specs.Prelude.{refl}
use Rattle.std.proofs.Common.{rules, sym, ◌∙◌}
use Rattle.control_laws.proofs.ListLemmas.{never}
use Rattle.ctl_moves.proofs.HeardLemmas.{is_told_not, is_told_on, term_root, term_lives, term_ends}
use Rattle.ctl_moves.proofs.terming.tell_holder.Goals as goal

pub returns-then-at-eq0-clause-told : goal.returns-then-at-eq0-clause-told
returns-then-at-eq0-clause-told g c = is_told_not c.args.at.0 (g.H.Holder.holding c.args.holder.now)

pub returns-then-at-eq0-clause-kept : goal.returns-then-at-eq0-clause-kept
returns-then-at-eq0-clause-kept g c = λ is. refl

pub returns-then-at-eq0-clause-root : goal.returns-then-at-eq0-clause-root
returns-then-at-eq0-clause-root g c = λ is. refl

pub returns-then-at-eq0-clause-heard : goal.returns-then-at-eq0-clause-heard
returns-then-at-eq0-clause-heard g c = term_root c.args.at (g.H.Holder.holding c.args.holder.now).heard (g.H.Holder.holding c.args.holder.now).heard c.args.ended c.if-at-eq0.true

pub returns-else-ended-clause-told : goal.returns-else-ended-clause-told
returns-else-ended-clause-told g c = first_of (assumption, search rules)

pub returns-else-ended-clause-kept : goal.returns-else-ended-clause-kept
returns-else-ended-clause-kept g c = assumption

pub returns-else-ended-clause-root : goal.returns-else-ended-clause-root
returns-else-ended-clause-root g c = λ is. absurd (c.if-at-eq0.false is)

pub returns-else-ended-clause-heard : goal.returns-else-ended-clause-heard
returns-else-ended-clause-heard g c = term_lives c.args.at (g.H.Holder.holding c.args.holder.now).heard _ c.args.ended c.if-at-eq0.false c.if-ended.false assumption

pub returns-then-ended-clause-told : goal.returns-then-ended-clause-told
returns-then-ended-clause-told g c = search (rules, is_told_on)

pub returns-then-ended-clause-kept : goal.returns-then-ended-clause-kept
returns-then-ended-clause-kept g c = λ is. absurd (never (sym is ∙ c.if-ended.true))

pub returns-then-ended-clause-root : goal.returns-then-ended-clause-root
returns-then-ended-clause-root g c = λ is. absurd (c.if-at-eq0.false is)

pub returns-then-ended-clause-heard : goal.returns-then-ended-clause-heard
returns-then-ended-clause-heard g c = search (rules, c.if-at-eq0.false, c.if-ended.true, term_ends)
