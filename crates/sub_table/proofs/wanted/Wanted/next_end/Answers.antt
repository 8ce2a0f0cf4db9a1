use Rattle.std.proofs.Common.{◌∙◌, length, ap, sym, arith}
use Rattle.std.specs.Option.{is_some}
use Rattle.spec_pattern.specs.Wanted.{wants}
use Rattle.sub_table.specs.View.{entries_of}
use Rattle.sub_table.proofs.CountLemmas.{not_found}
use Rattle.sub_table.proofs.wanted.Wanted.next_end.Goals as goal

pub returns-then-end-last-clause-none : goal.returns-then-end-last-clause-none
returns-then-end-last-clause-none c = λ t l h.
    sym (ap (λ w. wants w t) c.self.view_is)
    ∙ ap is_some (not_found (entries_of c.self.inside.counts.entries) c.self.inside.lengths c.self.invariant.lengths t
    (c.in-Some.ensures.some.1 (length t) l (omega (arith, h, c.if-end-last.true))))

pub returns-in-Some-clause-some : goal.returns-in-Some-clause-some
returns-in-Some-clause-some c = (
  c.in-Some.ensures.some.0,
  omega (arith, c.if-end-last.false),
  λ t l h.
      sym (ap (λ w. wants w t) c.self.view_is)
      ∙ ap is_some (not_found (entries_of c.self.inside.counts.entries) c.self.inside.lengths c.self.invariant.lengths t (c.in-Some.ensures.some.1 (length t) l h)),
)

pub returns-in-None-clause-none : goal.returns-in-None-clause-none
returns-in-None-clause-none c = λ t l h.
    sym (ap (λ w. wants w t) c.self.view_is)
    ∙ ap is_some (not_found (entries_of c.self.inside.counts.entries) c.self.inside.lengths c.self.invariant.lengths t (c.in-None.ensures.none (length t) l))
