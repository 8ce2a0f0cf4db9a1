-- A closed socket has no end.
use Rattle.std.proofs.Common.{◌≡◌, ℕ, zero, suc, true, false, List, [], ◌∷◌, Some, sym, ap, ◌∙◌, true≢false}
use Rattle.std.proofs.lemmas.List.Elements.{All-head, All-tail}
use Rattle.zq_base.specs.declared.ids.EndId.{EndId}
use Rattle.end_table.specs.declared.table.Place.{Place}
use Rattle.end_table.specs.Places.{place_at, is_of}
use Rattle.end_table.specs.Giving.{AreGone}
use Rattle.end_table.proofs.SoundLemmas.{one_some}
use Rattle.sock_core.proofs.FindLemmas.{held_is}

module _ {N I : Type 0} where
  pub gone_at : (ps : List (Place N I)) (k : ℕ) (p : Place N I) → AreGone ps → place_at ps k ≡ Some p → p.held ≡ false
  gone_at [] k p gone at = cc
  gone_at (x ∷ xs) zero p gone at = ap (λ (y : Place N I). y.held) (sym (one_some x p at)) ∙ All-head (λ (y : Place N I). y.held ≡ false) x xs gone
  gone_at (x ∷ xs) (suc k) p gone at = gone_at xs k p (All-tail (λ (y : Place N I). y.held ≡ false) x xs gone) at

  -- so none is found there
  pub never_gone : {X : Type 0} (e : EndId) (ps : List (Place N I)) (k : ℕ) (p : Place N I) → AreGone ps → place_at ps k ≡ Some p → is_of e p ≡ true → X
  never_gone e ps k p gone at is = absurd (true≢false (sym (held_is e p is) ∙ gone_at ps k p gone at))
