-- What is seen of ends by places, after one of them changed.
use Rattle.std.proofs.Common.{◌≡◌, ◌==◌, ◌&&◌, ◌||◌, ◌∙◌, ℕ, zero, suc, Bool, List, [], ◌∷◌, set, Some, refl, sym, ap, if◌then◌else◌}
use Rattle.std.specs.List.{list_any}
use Rattle.zq_base.specs.declared.ids.EndId.{EndId}
use Rattle.zq_base.specs.declared.kind.Kind.{Kind}
use Rattle.spec_control.specs.declared.end.EndState.{EndState}
use Rattle.spec_control.specs.Control.{is_end}
use Rattle.spec_control.specs.Held.{Held}
use Rattle.desk.specs.Holding.{Stays}
use Rattle.end_table.specs.declared.table.Place.{Place}
use Rattle.end_table.specs.Places.{place_at, held_of, held_in, is_of, writes_of, writes_in, met_of, met_in}
use Rattle.end_table.proofs.SoundLemmas.{one_some}
use Rattle.sock_core.specs.Has.{Told, state_in, has}

-- the same ends are seen, with the same halves
pub record SameSeen {N I : Type 0} (ps qs : List (Place N I)) : Type 0 where
  pub ends : held_in qs ≡ held_in ps
  pub writes : (d : EndId) → writes_in qs d ≡ writes_in ps d
  pub met : (d : EndId) → met_in qs d ≡ met_in ps d

module _ {N I : Type 0} where
  pub any_same : (test : Place N I → Bool) (ps : List (Place N I)) (k : ℕ) (p q : Place N I) → place_at ps k ≡ Some p → test q ≡ test p → list_any test (set ps k q) ≡ list_any test ps
  any_same test [] k p q at h = refl
  any_same test (x ∷ xs) zero p q at h = ap (λ (b : Bool). b || list_any test xs) (h ∙ ap test (sym (one_some x p at)))
  any_same test (x ∷ xs) (suc k) p q at h = ap (λ (b : Bool). test x || b) (any_same test xs k p q at h)

  pub held_same : (ps : List (Place N I)) (k : ℕ) (p q : Place N I) → place_at ps k ≡ Some p → q.held ≡ p.held → held_of q ≡ held_of p → held_in (set ps k q) ≡ held_in ps
  held_same [] k p q at h same = refl
  held_same (x ∷ xs) zero p q at h same =
      ap (λ (b : Bool). if b then held_of q ∷ held_in xs else held_in xs) (h ∙ ap (λ (y : Place N I). y.held) (sym (one_some x p at)))
      ∙ ap (λ (y : Held N). if x.held then y ∷ held_in xs else held_in xs) (same ∙ ap held_of (sym (one_some x p at)))
  held_same (x ∷ xs) (suc k) p q at h same = ap (λ (l : List (Held N)). if x.held then held_of x ∷ l else l) (held_same xs k p q at h same)

  pub state_same : (ps : List (Place N I)) (k : ℕ) (p q : Place N I) (d : EndId) → place_at ps k ≡ Some p → is_of d q ≡ is_of d p → q.state ≡ p.state → state_in (set ps k q) d ≡ state_in ps d
  state_same [] k p q d at h same = refl
  state_same (x ∷ xs) zero p q d at h same =
      ap (λ (b : Bool). if b then q.state else state_in xs d) (h ∙ ap (is_of d) (sym (one_some x p at)))
      ∙ ap (λ (s : EndState). if is_of d x then s else state_in xs d) (same ∙ ap (λ (y : Place N I). y.state) (sym (one_some x p at)))
  state_same (x ∷ xs) (suc k) p q d at h same = ap (λ (s : EndState). if is_of d x then x.state else s) (state_same xs k p q d at h same)

  -- what is said of a place is as it was
  pub seen_same : (ps : List (Place N I)) (k : ℕ) (p q : Place N I) → place_at ps k ≡ Some p → q.held ≡ p.held → held_of q ≡ held_of p → q.writes ≡ p.writes → q.met ≡ p.met → SameSeen ps (set ps k q)
  seen_same ps k p q at held same writes met =
      let of : (d : EndId) → is_of d q ≡ is_of d p = λ d. ap (λ (b : Bool). b && is_end d q.end) held ∙ ap (λ (y : Held N). p.held && is_end d y.end) same in
      record {
        ends = held_same ps k p q at held same;
        writes = λ d. any_same (writes_of d) ps k p q at (ap (λ (b : Bool). b && is_of d q) writes ∙ ap (λ (b : Bool). p.writes && b) (of d));
        met = λ d. any_same (met_of d) ps k p q at (ap (λ (b : Bool). b && is_of d q) met ∙ ap (λ (b : Bool). p.met && b) (of d));
      }

  -- then all stays for the control plane
  pub stays_of : (n : ℕ) (o : ℕ) (is_open : Bool) (kind : Kind) (t u : Told N) (ps qs : List (Place N I)) → SameSeen ps qs → Stays o (has n is_open kind t ps) (has n is_open kind u qs)
  stays_of n o is_open kind t u ps qs same = record {
    now = record {
      ends = ap (λ (l : List (Held N)). if o == n then l else []) same.ends;
      others = λ i ne. ap (λ (l : List (Held N)). if i == n then l else []) same.ends;
      objects = λ i. refl;
      kinds = λ i. refl;
      output = λ i. refl;
      delimiters = λ i d here at. same.met d ∙ at;
    };
    writers = λ d. same.writes d;
  }
