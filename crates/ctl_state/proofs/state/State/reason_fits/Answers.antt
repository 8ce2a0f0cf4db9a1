use Rattle.std.specs.Prelude.{Option}
use Rattle.std.proofs.Common.{sym, subst}
use Rattle.spec_control.specs.declared.end.Reason.{Reason}
use Rattle.spec_control.specs.Place.{Place}
use Rattle.ctl_state.specs.declared.pair.Spot.{Spot}
use Rattle.ctl_state.specs.Pairs.{FitsAt, place_at, reason_at, spot_at}
use Rattle.ctl_state.proofs.EndLemmas.{place_stands}
use Rattle.ctl_state.proofs.state.State.reason_fits.Goals as goal

pub returns-in-Some : goal.returns-in-Some
returns-in-Some g c = λ k h.
    subst (λ (p : Place). FitsAt p (k.reasons c.args.e)) (sym (place_stands c.args.self.now c.args.e k h))
    (subst (λ (r : Option Reason). FitsAt (place_at (spot_at c.args.self.now.pairs c.args.e)) r) (sym (h.pairs.reasons_are c.args.e))
    (subst (λ (s : Spot). FitsAt (place_at s) (reason_at s)) c.in-Some.ensures.some c.fits_there.ensures))

pub returns-in-None : goal.returns-in-None
returns-in-None g c = λ k h.
    subst (λ (p : Place). FitsAt p (k.reasons c.args.e)) (sym (place_stands c.args.self.now c.args.e k h))
    (subst (λ (r : Option Reason). FitsAt (place_at (spot_at c.args.self.now.pairs c.args.e)) r) (sym (h.pairs.reasons_are c.args.e))
    (subst (λ (s : Spot). FitsAt (place_at s) (reason_at s)) (sym c.in-None.ensures.none) tt))
