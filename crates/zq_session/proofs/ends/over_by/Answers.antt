use Rattle.std.proofs.Common.{refl, sym, inl, inr, ◌∙◌}
use Rattle.zq_session.proofs.ends.over_by.Goals as goal

pub returns-in-Some-clause-some : goal.returns-in-Some-clause-some
returns-in-Some-clause-some c = inl (sym c.got_end.ensures ∙ c.in-Some.is)

pub returns-then-said-clause-none : goal.returns-then-said-clause-none
returns-then-said-clause-none c = record { answer = sym c.got_end.ensures ∙ c.in-None.is; unrefused = λ e. (let t = c.if-said.true in absurd cc) }

pub returns-in-Some-refusal-clause-some : goal.returns-in-Some-refusal-clause-some
returns-in-Some-refusal-clause-some c = inr (sym c.got_end.ensures ∙ c.in-None.is, (c.if-said.false, (c.in-Some-refusal.cause, refl, c.in-Some-refusal.ensures.some)))

pub returns-in-None-refusal-clause-none : goal.returns-in-None-refusal-clause-none
returns-in-None-refusal-clause-none c = record { answer = sym c.got_end.ensures ∙ c.in-None.is; unrefused = λ _. c.in-None-refusal.ensures.none }
