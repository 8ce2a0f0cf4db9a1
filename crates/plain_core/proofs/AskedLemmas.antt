-- Ends that were asked were so still, where they are where they were.
use Rattle.std.specs.Prelude.{◌≡◌, ◌<◌, ℕ, List, [], ◌∷◌}
use Rattle.std.proofs.Common.{sym, subst}
use Rattle.zq_base.specs.declared.ids.EndId.{EndId}
use Rattle.spec_control.specs.Control.{Control, next_pair, place_of}
use Rattle.spec_control.specs.Place.{Place}
use Rattle.socket_laws.specs.Asked.{asked_rank, WereAsked}

pub asked_still : (c d : Control) → next_pair d ≡ next_pair c → ((e : EndId) → place_of d e ≡ place_of c e) → (es : List EndId) → WereAsked c es → WereAsked d es
asked_still c d pairs places [] were = tt
asked_still c d pairs places (e ∷ es) were =
    ((subst (λ (n : ℕ). e.pair.0 < n) (sym pairs) were.0.0, subst (λ (p : Place). 0 < asked_rank p) (sym (places e)) were.0.1), asked_still c d pairs places es were.1)
