use Rattle.std.proofs.Common.{refl, ◌∙◌, ap, ◌++◌, ◌∷◌, []}
use Rattle.zq_script.proofs.KnownLemmas.{knows_actor}
use Rattle.zq_script.proofs.known.Known.add_actor.Goals as goal

pub returns-clause-knows : goal.returns-clause-knows
returns-clause-knows c = knows_actor _ _ _ (c.in_ok-push.ensures.items ∙ ap (λ name. c.args.self.now.actors.items ++ name ∷ []) c.in_ok-name.ensures) c.new.ensures.empty refl
