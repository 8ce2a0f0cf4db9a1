use Rattle.std.proofs.Common.{◌∙◌, ap, sym, nat_eq, arith}
use Rattle.spec_pattern.specs.Topics.{has_topic}
use Rattle.sub_table.specs.View.{is_peer}
use Rattle.sub_table.proofs.topics.Topics.next_end.Goals as goal

pub returns-then-end-last-clause-none : goal.returns-then-end-last-clause-none
returns-then-end-last-clause-none c = λ q t l h.
    sym (c.self.invariant.same t q ∙ ap (λ subs. has_topic nat_eq subs q t) c.self.view_is)
    ∙ ap (λ peers. is_peer peers q) (c.in-Some.ensures.some.1 t l (omega (arith, h, c.if-end-last.true)))

pub returns-in-Some-clause-some : goal.returns-in-Some-clause-some
returns-in-Some-clause-some c = (
  c.in-Some.ensures.some.0,
  omega (arith, c.if-end-last.false),
  λ q t l h.
      sym (c.self.invariant.same t q ∙ ap (λ subs. has_topic nat_eq subs q t) c.self.view_is)
      ∙ ap (λ peers. is_peer peers q) (c.in-Some.ensures.some.1 t l h),
)

pub returns-in-None-clause-none : goal.returns-in-None-clause-none
returns-in-None-clause-none c = λ q t l h.
    sym (c.self.invariant.same t q ∙ ap (λ subs. has_topic nat_eq subs q t) c.self.view_is)
    ∙ ap (λ peers. is_peer peers q) (c.in-None.ensures.none t l)
