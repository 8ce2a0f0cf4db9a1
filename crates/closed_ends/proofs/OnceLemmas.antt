-- What one call notes of the pipe of an end.
use Rattle.std.proofs.Common.{◌≡◌, ◌∙◌, Bool, true, false, not, List, [], ◌∷◌, ◌++◌, refl, sym, ap, subst, arith}
use Rattle.zq_base.specs.declared.ids.EndId.{EndId}
use Rattle.spec_pattern.specs.Half.{with_delimiter, without_parts}
use Rattle.msg_pipe.specs.Known.{Known, IsThere, KeepsButOut}
use Rattle.end_table.specs.declared.changes.PipeChange.{PipeChange}
use Rattle.end_table.specs.declared.changes.PipeChange.TheVariants.{Sealed, SealedAgain, Parted}
use Rattle.end_table.specs.declared.table.Place.{Place}
use Rattle.end_table.specs.Places.{place_at}
use Rattle.end_table.specs.Changes.{IsPlaced, SealedBy, PartedBy, NotesHalf}
use Rattle.end_table.proofs.SoundLemmas.{one_some}
use Rattle.end_table.specs.Halving.{WritesAt}
use Rattle.closed_ends.specs.Once.{ChangesOnce}

module _ {N I : Type 0} where
  pub one_placed : (p : Place N I) → IsPlaced (p ∷ []) 0 p.end
  one_placed p = record { within = omega arith; end_is = λ q at. ap (λ (x : Place N I). x.end) (sym (one_some p q at)) }

module _ {S O I N : Type 0} (K : Known S O I N) where
  module _ (p : Place N I) (held : p.held ≡ true) (writes : p.writes ≡ true) (xs ys : List (PipeChange O I × S)) (old new : S) where
    here : WritesAt (p ∷ []) 0
    here = record { place = p; there = refl; held = held; writes = writes }

    pub once_again : (s : Bool) → s ≡ true → new ≡ old → ys ≡ xs ++ (SealedAgain 0 p.end, new) ∷ [] → ChangesOnce K p ((p.end, not s) ∷ []) xs old ys new
    once_again s sealed stays noted = record {
      change = SealedAgain 0 p.end;
      noted = noted;
      does = record { placed = one_placed p; stays = stays };
      wrote = here;
      sealings_are = ap (λ (b : Bool). (p.end, not b) ∷ []) (sym sealed);
    }

    pub once_sealed : (s : Bool) (lent back : O) → s ≡ false → NotesHalf (λ half. Sealed 0 p.end half) lent back new xs ys → K.out_name lent ≡ p.written → IsThere K old (K.out_name lent) → (K.writing old lent).sealed ≡ false
        → K.writing new back ≡ with_delimiter (K.writing old lent) → KeepsButOut K lent back old new → ChangesOnce K p ((p.end, not s) ∷ []) xs old ys new
    once_sealed s lent back unsealed_yet h name there unsealed delimiter keeps = record {
      change = Sealed 0 p.end h.half;
      noted = h.noted;
      does = subst (λ (l : List (O × Unit {0})). SealedBy K (p ∷ []) 0 p.end l old new) (sym h.half_is)
          (record { placed = one_placed p; pipe_is = λ q at. name ∙ ap (λ (x : Place N I). x.written) (one_some p q at); there = there; unsealed = unsealed; delimiter = delimiter; keeps = keeps });
      wrote = here;
      sealings_are = ap (λ (b : Bool). (p.end, not b) ∷ []) (sym unsealed_yet);
    }

    pub once_parted : (lent back : O) → NotesHalf (λ half. Parted 0 p.end half) lent back new xs ys → K.out_name lent ≡ p.written
        → K.writing new back ≡ without_parts (K.writing old lent) → KeepsButOut K lent back old new → ChangesOnce K p [] xs old ys new
    once_parted lent back h name forgets keeps = record {
      change = Parted 0 p.end h.half;
      noted = h.noted;
      does = subst (λ (l : List (O × Unit {0})). PartedBy K (p ∷ []) 0 p.end l old new) (sym h.half_is)
          (record { placed = one_placed p; pipe_is = λ q at. name ∙ ap (λ (x : Place N I). x.written) (one_some p q at); forgets = forgets; keeps = keeps });
      wrote = here;
      sealings_are = refl;
    }
