use Rattle.std.proofs.Common.{ap, sym, ◌∙◌}
use Rattle.ctl_state.specs.declared.pair.Spot.{Spot}
use Rattle.ctl_state.specs.Pairs.{place_at}
use Rattle.spec_control.specs.Place.{Place, is_here}
use Rattle.ctl_state.proofs.EndLemmas.{place_stands}
use Rattle.ctl_state.proofs.state.State.is_here.Goals as goal

pub returns-in-Some : goal.returns-in-Some
returns-in-Some g c = λ k h. c.is_here.ensures ∙ ap (λ (s : Spot). is_here (place_at s)) c.in-Some.ensures.some ∙ ap (λ (p : Place). is_here p) (sym (place_stands c.args.self.now c.args.e k h))

pub returns-in-None : goal.returns-in-None
returns-in-None g c = λ k h. ap (λ (s : Spot). is_here (place_at s)) (sym c.in-None.ensures.none) ∙ ap (λ (p : Place). is_here p) (sym (place_stands c.args.self.now c.args.e k h))
