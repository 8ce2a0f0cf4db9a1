-- That a holder has the ends of its objects, once one more was attached, of a pair whose number was drawn long ago.
use Rattle.std.specs.Prelude.{◌≡◌, ◌≢◌, ◌⊎◌, ◌==◌, ◌++◌, ◌∷◌, [], ℕ, Bool, true, false, cond, List, Option, Some, None, All, filter, map, unwrap_or, if◌then◌else◌, refl}
use Rattle.std.specs.List.{list_any}
use Rattle.std.proofs.Common.{sym, ap, ◌∙◌, subst, inl, inr}
use Rattle.std.proofs.lemmas.Bool.{cases_eq, eq-eqb, ne_eqb}
use Rattle.std.proofs.lemmas.List.{append-nil, map-append}
use Rattle.std.proofs.lemmas.List.Elements.{All-append, All-cons, All-filter, All-nil, All-weaker, filter-append}
use Rattle.std.proofs.lemmas.List.Folds.{list_any-append}
use Rattle.zq_base.specs.declared.ids.EndId.{EndId}
use Rattle.spec_control.specs.declared.end.EndState.TheVariants.{Active}
use Rattle.spec_control.specs.declared.end.Reason.{Reason}
use Rattle.spec_control.specs.Place.{Place, At, is_here}
use Rattle.spec_control.specs.Control.{Control, is_end, met_in, owner_of, place_of}
use Rattle.spec_control.specs.Held.{Held}
use Rattle.control_laws.proofs.AskLemmas.{same_end}
use Rattle.control_laws.proofs.ListLemmas.{never}
use Rattle.desk.specs.Holding.{BeginsActive, Holding, Joined, has_end}
use Rattle.desk.specs.Lent.{has_writer, here_ends, HasBothNames, HasEnds, HasAll}
use Rattle.ctl_moves.proofs.HeldLemmas.{has_listed}
use Rattle.ctl_moves.proofs.BoundLemmas.{agree_on, none_any, or_none}
use Rattle.ctl_moves.proofs.JoinedLemmas.{among_all, among_some}

-- an attached end that is not this one, and stays where it is
pub record IsElse (c d : Control) (e x : EndId) : Type 0 where
  pub other : is_end x e ≡ false
  pub place : place_of d x ≡ place_of c x

-- one end more is attached, and the others are where they were
pub record AttachesOne (c d : Control) (o : ℕ) (e : EndId) : Type 0 where
  pub attached : d.attached ≡ c.attached ++ e ∷ []
  pub owners : (x : EndId) → owner_of d x ≡ owner_of c x
  pub reasons : (x : EndId) → d.reasons x ≡ c.reasons x
  pub others : All (IsElse c d e) c.attached
  pub active : place_of d e ≡ At Active
  pub mine : owner_of c e ≡ o

module _ (c d : Control) (o : ℕ) (e : EndId) (a : AttachesOne c d o e) where
  old_ones : (i : ℕ) → here_ends d.rows.pairs c.attached i ≡ here_ends c.rows.pairs c.attached i
  old_ones i =
      ap (filter (λ x. is_here (place_of d x)))
      (agree_on (λ x. owner_of d x == i) (λ x. owner_of c x == i) c.attached (All-weaker (IsElse c d e) (λ x. (owner_of d x == i) ≡ (owner_of c x == i)) (λ x so. ap (λ (n : ℕ). n == i) (a.owners x)) c.attached a.others))
      ∙ agree_on (λ x. is_here (place_of d x)) (λ x. is_here (place_of c x)) (filter (λ x. owner_of c x == i) c.attached)
      (All-weaker (IsElse c d e) (λ x. is_here (place_of d x) ≡ is_here (place_of c x)) (λ x so. ap is_here so.place) (filter (λ x. owner_of c x == i) c.attached) (All-filter (λ x. owner_of c x == i) (IsElse c d e) c.attached a.others))

  all_ones : (i : ℕ) → here_ends d.rows.pairs d.attached i ≡ here_ends c.rows.pairs c.attached i ++ filter (λ x. is_here (place_of d x)) (filter (λ x. owner_of d x == i) (e ∷ []))
  all_ones i =
      ap (λ (es : List EndId). here_ends d.rows.pairs es i) a.attached
      ∙ ap (filter (λ x. is_here (place_of d x))) (filter-append (λ x. owner_of d x == i) c.attached (e ∷ []))
      ∙ filter-append (λ x. is_here (place_of d x)) (filter (λ x. owner_of d x == i) c.attached) (filter (λ x. owner_of d x == i) (e ∷ []))
      ∙ ap (λ (es : List EndId). es ++ filter (λ x. is_here (place_of d x)) (filter (λ x. owner_of d x == i) (e ∷ []))) (old_ones i)

  mine_more : here_ends d.rows.pairs d.attached o ≡ here_ends c.rows.pairs c.attached o ++ e ∷ []
  mine_more =
      all_ones o
      ∙ ap (λ (b : Bool). here_ends c.rows.pairs c.attached o ++ filter (λ x. is_here (place_of d x)) (cond b (e ∷ []) [])) (eq-eqb (owner_of d e) o (a.owners e ∙ a.mine))
      ∙ ap (λ (p : Place). here_ends c.rows.pairs c.attached o ++ cond (is_here p) (e ∷ []) []) a.active

  theirs_same : (i : ℕ) → i ≢ o → here_ends d.rows.pairs d.attached i ≡ here_ends c.rows.pairs c.attached i
  theirs_same i other =
      all_ones i
      ∙ ap (λ (b : Bool). here_ends c.rows.pairs c.attached i ++ filter (λ x. is_here (place_of d x)) (cond b (e ∷ []) [])) (ne_eqb (owner_of d e) i (λ same. other (sym same ∙ a.owners e ∙ a.mine)))
      ∙ append-nil (here_ends c.rows.pairs c.attached i)

  -- an end that a holder has was attached
  module _ {N : Type 0} (names : EndId → Option N) (h : Holding N) (i : ℕ) (has : HasEnds names c.rows.pairs c.attached c.reasons h i) where
    pub was_attached : (x : EndId) → has_end x (h.ends i) ≡ true → list_any (is_end x) c.attached ≡ true
    was_attached x here =
        among_some (λ y. owner_of c y == i) x c.attached
        (among_some (λ y. is_here (place_of c y)) x (filter (λ y. owner_of c y == i) c.attached)
        (sym (ap (list_any (is_end x)) has.ends) ∙ sym (has_listed x (h.ends i)) ∙ here))

    stays_there : (x : EndId) → has_end x (h.ends i) ≡ true → place_of d x ≡ place_of c x
    stays_there x here = (among_all (IsElse c d e) x c.attached a.others (was_attached x here)).place

  -- and this one it has not
  pub not_yet : {N : Type 0} (names : EndId → Option N) (h : Holding N) (i : ℕ) → HasEnds names c.rows.pairs c.attached c.reasons h i → has_end e (h.ends i) ≡ false
  not_yet names h i has =
      has_listed e (h.ends i) ∙ ap (list_any (is_end e)) has.ends
      ∙ none_any e (here_ends c.rows.pairs c.attached i)
      (All-filter (λ x. is_here (place_of c x)) (λ x. is_end x e ≡ false) (filter (λ x. owner_of c x == i) c.attached)
      (All-filter (λ x. owner_of c x == i) (λ x. is_end x e ≡ false) c.attached (All-weaker (IsElse c d e) (λ x. is_end x e ≡ false) (λ x so. so.other) c.attached a.others)))

  module _ {N : Type 0} (names : EndId → Option N) (h k : Holding N) (now : Held N) (is_now : now.end ≡ e) (joined : Joined o now h k) (begins : BeginsActive now.end h k) (named : HasBothNames names now) where
    had : (i : ℕ) (x : EndId) → is_end x e ≡ false → has_end x (k.ends i) ≡ true → has_end x (h.ends i) ≡ true
    had i x other here = by (cases_eq i o)
      where
        by : (i ≡ o) ⊎ (i ≡ o → ⊥) → has_end x (h.ends i) ≡ true
        by (inl same) =
            or_none (has_end x (h.ends i)) (is_end x now.end)
            (sym (list_any-append (λ y. is_end x y.end) (h.ends i) (now ∷ [])) ∙ sym (ap (has_end x) (ap k.ends same ∙ joined.now.ends ∙ ap (λ (n : ℕ). h.ends n ++ now ∷ []) (sym same))) ∙ here) (ap (is_end x) is_now ∙ other)
        by (inr differ) = sym (ap (has_end x) (joined.now.others i differ)) ∙ here

    ends_now : (i : ℕ) → HasEnds names c.rows.pairs c.attached c.reasons h i → map (λ x. x.end) (k.ends i) ≡ here_ends d.rows.pairs d.attached i
    ends_now i has = by (cases_eq i o)
      where
        by : (i ≡ o) ⊎ (i ≡ o → ⊥) → map (λ x. x.end) (k.ends i) ≡ here_ends d.rows.pairs d.attached i
        by (inl same) =
            ap (λ (hs : List (Held N)). map (λ x. x.end) hs) (ap k.ends same ∙ joined.now.ends ∙ ap (λ (n : ℕ). h.ends n ++ now ∷ []) (sym same))
            ∙ map-append (λ x. x.end) (h.ends i) (now ∷ []) ∙ ap (λ (es : List EndId). es ++ now.end ∷ []) has.ends ∙ ap (λ (x : EndId). here_ends c.rows.pairs c.attached i ++ x ∷ []) is_now
            ∙ ap (λ (n : ℕ). here_ends c.rows.pairs c.attached n ++ e ∷ []) same ∙ sym mine_more ∙ ap (λ (n : ℕ). here_ends d.rows.pairs d.attached n) (sym same)
        by (inr differ) = ap (λ (hs : List (Held N)). map (λ x. x.end) hs) (joined.now.others i differ) ∙ has.ends ∙ sym (theirs_same i differ)

    named_now : (i : ℕ) → HasEnds names c.rows.pairs c.attached c.reasons h i → All (HasBothNames names) (k.ends i)
    named_now i has = by (cases_eq i o)
      where
        by : (i ≡ o) ⊎ (i ≡ o → ⊥) → All (HasBothNames names) (k.ends i)
        by (inl same) =
            subst (λ (hs : List (Held N)). All (HasBothNames names) hs) (sym (ap k.ends same ∙ joined.now.ends ∙ ap (λ (n : ℕ). h.ends n ++ now ∷ []) (sym same)))
            (All-append (HasBothNames names) (h.ends i) (now ∷ []) has.named (All-cons (HasBothNames names) now [] named (All-nil (HasBothNames names))))
        by (inr differ) = subst (λ (hs : List (Held N)). All (HasBothNames names) hs) (sym (joined.now.others i differ)) has.named

    writes_now : (i : ℕ) → HasEnds names c.rows.pairs c.attached c.reasons h i → (x : EndId) → has_end x (k.ends i) ≡ true → k.writes x ≡ has_writer (place_of d x)
    writes_now i has x here = by (is_end x e) refl
      where
        is_same : is_end x now.end ≡ is_end x e
        is_same = ap (is_end x) is_now

        by : (b : Bool) → is_end x e ≡ b → k.writes x ≡ has_writer (place_of d x)
        by true same =
            joined.writers x ∙ ap (λ (y : Bool). if y then true else h.writes x) (is_same ∙ same)
            ∙ sym (ap (λ (y : EndId). has_writer (place_of d y)) (same_end x e same) ∙ ap has_writer a.active)
        by false other =
            joined.writers x ∙ ap (λ (y : Bool). if y then true else h.writes x) (is_same ∙ other) ∙ has.writes x (had i x other here) ∙ sym (ap has_writer (stays_there names h i has x (had i x other here)))

    met_now : (i : ℕ) → HasEnds names c.rows.pairs c.attached c.reasons h i → (x : EndId) → has_end x (k.ends i) ≡ true → met_in (place_of d x) (d.reasons x) ≡ true → k.at_delimiter x ≡ true
    met_now i has x here met = by (is_end x e) refl
      where
        unmet : (reason : Option Reason) → met_in (At Active) reason ≡ false
        unmet None = refl
        unmet (Some reason) = refl

        by : (b : Bool) → is_end x e ≡ b → k.at_delimiter x ≡ true
        by true same = absurd (never (sym (ap (λ (p : Place). met_in p (d.reasons x)) (ap (λ (y : EndId). place_of d y) (same_end x e same) ∙ a.active) ∙ unmet (d.reasons x)) ∙ met))
        by false other =
            joined.now.delimiters i x here
            (has.delimiters x (had i x other here) (sym (ap (λ (p : Place). met_in p (d.reasons x)) (stays_there names h i has x (had i x other here)) ∙ ap (met_in (place_of c x)) (a.reasons x)) ∙ met))

    states_now : (i : ℕ) → HasEnds names c.rows.pairs c.attached c.reasons h i → (x : EndId) → has_end x (k.ends i) ≡ true → place_of d x ≡ At (k.state x)
    states_now i has x here = by (is_end x e) refl
      where
        is_same : is_end x now.end ≡ is_end x e
        is_same = ap (is_end x) is_now

        by : (b : Bool) → is_end x e ≡ b → place_of d x ≡ At (k.state x)
        by true same =
            ap (λ (y : EndId). place_of d y) (same_end x e same) ∙ a.active
            ∙ ap At (sym (begins.states i x here ∙ ap (λ (y : Bool). unwrap_or (if y then Some Active else None) (h.state x)) (is_same ∙ same)))
        by false other =
            stays_there names h i has x (had i x other here) ∙ has.states x (had i x other here)
            ∙ ap At (sym (begins.states i x here ∙ ap (λ (y : Bool). unwrap_or (if y then Some Active else None) (h.state x)) (is_same ∙ other)))

    -- it has this one more
    pub has_one_more : HasAll names c h → HasAll names d k
    has_one_more has i holds = of (has i (sym (joined.now.objects i) ∙ holds))
      where
        of : HasEnds names c.rows.pairs c.attached c.reasons h i → HasEnds names d.rows.pairs d.attached d.reasons k i
        of was = record { ends = ends_now i was; named = named_now i was; writes = writes_now i was; delimiters = met_now i was; states = states_now i was }
