use Rattle.std.proofs.Common.{true, false, refl, sym, ap, ◌++◌, ◌∷◌, [], ◌∙◌}
use Rattle.zq_world.proofs.actor.Actor.end_try.Goals as goal

pub returns-then-not-is_over-clause-ok : goal.returns-then-not-is_over-clause-ok
returns-then-not-is_over-clause-ok g c = record {
  over = false;
  over_is = sym (sym c.is_over.ensures.over ∙ c.if-not-is_over.true);
  lines = refl;
  tried = refl;
  told = refl;
  says = refl;
  name = refl;
}

pub returns-clause-ok : goal.returns-clause-ok
returns-clause-ok g c = record {
  over = true;
  over_is = sym c.if-not-is_over.false ∙ c.is_over.ensures.over;
  lines = refl;
  tried = refl;
  told = ap (λ v. v.items) c.replace-told.ensures.after ∙ c.new.ensures.items;
  says = c.in_ok-push.ensures.items
      ∙ ap (λ s. c.args.self.now.entries.items ++ record { line = c.args.line.now.number; answer = c.args.answer; skips = s } ∷ []) (c.of_vec.ensures ∙ ap (λ v. v.items) c.replace-told.ensures.value);
  name = refl;
}

pub returns-clause-may : goal.returns-clause-may
returns-clause-may g c = c.requires.rest

pub returns-in_err-push-clause-may : goal.returns-in_err-push-clause-may
returns-in_err-push-clause-may g c = c.requires.rest

pub returns-then-not-is_over-clause-may : goal.returns-then-not-is_over-clause-may
returns-then-not-is_over-clause-may g c = c.requires.lines
