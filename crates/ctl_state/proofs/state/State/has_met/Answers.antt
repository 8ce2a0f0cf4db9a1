use Rattle.std.specs.Prelude.{Option}
use Rattle.std.proofs.Common.{ap, sym, ◌∙◌}
use Rattle.spec_control.specs.declared.end.Reason.{Reason}
use Rattle.spec_control.specs.Place.{Place}
use Rattle.spec_control.specs.Control.{met_in}
use Rattle.ctl_state.specs.declared.pair.Spot.{Spot}
use Rattle.ctl_state.specs.Pairs.{place_at, reason_at, spot_at}
use Rattle.ctl_state.proofs.EndLemmas.{place_stands}
use Rattle.ctl_state.proofs.state.State.has_met.Goals as goal

pub returns-in-Some : goal.returns-in-Some
returns-in-Some g c = λ k h.
    c.met_there.ensures ∙ ap (λ (s : Spot). met_in (place_at s) (reason_at s)) c.in-Some.ensures.some
    ∙ ap (λ (r : Option Reason). met_in (place_at (spot_at c.args.self.now.pairs c.args.e)) r) (sym (h.pairs.reasons_are c.args.e))
    ∙ ap (λ (p : Place). met_in p (k.reasons c.args.e)) (sym (place_stands c.args.self.now c.args.e k h))

pub returns-in-None : goal.returns-in-None
returns-in-None g c = λ k h.
    ap (λ (s : Spot). met_in (place_at s) (reason_at s)) (sym c.in-None.ensures.none)
    ∙ ap (λ (r : Option Reason). met_in (place_at (spot_at c.args.self.now.pairs c.args.e)) r) (sym (h.pairs.reasons_are c.args.e))
    ∙ ap (λ (p : Place). met_in p (k.reasons c.args.e)) (sym (place_stands c.args.self.now c.args.e k h))
