use Rattle.std.proofs.Common.{ap, sym, ◌∙◌}
use Rattle.ctl_state.specs.declared.pair.Spot.{Spot}
use Rattle.ctl_state.specs.Pairs.{reason_at}
use Rattle.ctl_state.proofs.state.State.reason.Goals as goal

pub returns-in-Some : goal.returns-in-Some
returns-in-Some g c = λ k h. c.reason_there.ensures ∙ ap (λ (s : Spot). reason_at s) c.in-Some.ensures.some ∙ sym (h.pairs.reasons_are c.args.e)

pub returns-in-None : goal.returns-in-None
returns-in-None g c = λ k h. ap (λ (s : Spot). reason_at s) (sym c.in-None.ensures.none) ∙ sym (h.pairs.reasons_are c.args.e)
