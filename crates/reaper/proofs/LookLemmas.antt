-- A look leaves a holder what the moments say, and a delimiter that is looked at is met.
use Rattle.std.proofs.Common.{◌≡◌, ◌∙◌, inl, inr, ℕ, Bool, true, false, List, sym, ap, subst}
use Rattle.std.proofs.lemmas.Bool.{cases_eq}
use Rattle.zq_base.specs.declared.ids.EndId.{EndId}
use Rattle.spec_control.specs.Place.{At, looks}
use Rattle.spec_control.specs.Control.{place_of}
use Rattle.spec_control.specs.Held.{Held}
use Rattle.spec_control.specs.Moments.{Moment}
use Rattle.desk.specs.Holding.{Holding, Stays, KeepsTurns, has_end}
use Rattle.ctl_plane.specs.Past.{control_of}
use Rattle.desk.specs.Desk.{HasWhatTheySay}
use Rattle.plain_desk.specs.Lent.{Lent, Meets, MeetsOrNot}

module _ {N : Type 0} (o : ℕ) (h k : Holding N) (stays : Stays o h k) (turns : KeepsTurns h k) where
  pub ends_stay : (i : ℕ) → k.ends i ≡ h.ends i
  ends_stay i =
      elim (cases_eq i o) [
        | inl same ↦ subst (λ (n : ℕ). k.ends n ≡ h.ends n) (sym same) stays.now.ends
        | inr other ↦ stays.now.others i other
      ]

  was_here : (i : ℕ) (e : EndId) → has_end e (k.ends i) ≡ true → has_end e (h.ends i) ≡ true
  was_here i e here = subst (λ (l : List (Held N)). has_end e l ≡ true) (ends_stay i) here

  pub says_still : {T : Type 0} (by : ℕ) (moments : List (Moment N T)) → HasWhatTheySay by moments h → HasWhatTheySay by moments k
  says_still by moments has = record {
    objects = λ i it. has.objects i (sym (stays.now.objects i) ∙ it);
    no_root = stays.now.objects 0 ∙ has.no_root;
    ends = λ i it. ends_stay i ∙ has.ends i (sym (stays.now.objects i) ∙ it);
    writes = λ i e it here. stays.writers e ∙ has.writes i e (sym (stays.now.objects i) ∙ it) (was_here i e here);
    delimiters = λ i e it here m. stays.now.delimiters i e here (has.delimiters i e (sym (stays.now.objects i) ∙ it) (was_here i e here) m);
    states = λ i e it here. has.states i e (sym (stays.now.objects i) ∙ it) (was_here i e here) ∙ ap At (sym (turns.states i e here));
    kinds = λ i it. stays.now.kinds i ∙ has.kinds i (sym (stays.now.objects i) ∙ it);
  }

pub met_so : {G N S : Type 0} (e : EndId) (found : Bool) (old new : Lent G N S) → MeetsOrNot e found old new → looks (place_of (control_of old.past) e) ≡ true → Meets e old new
met_so e true old new m at = m
met_so e false old new m at = absurd (never (sym at ∙ m.0))
  where
    never : true ≡ false → ⊥
    never is = cc
