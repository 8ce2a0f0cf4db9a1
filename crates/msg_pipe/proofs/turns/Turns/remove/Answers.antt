use Rattle.std.proofs.Common.{ap, eqb, not, rules, ◌∙◌}
use Rattle.std.proofs.lemmas.Fn.{filter_same}
use Rattle.msg_pipe.specs.Turns.{without_place}
use Rattle.msg_pipe.proofs.turns.Turns.remove.Goals as goal

pub returns : goal.returns
returns c =
    filter_same _ (λ other. not (eqb other c.args.place)) _ (λ other b f h. search rules) _ _ c.retain.ensures.filtered
    ∙ ap (without_place c.args.place) c.self.view_is
