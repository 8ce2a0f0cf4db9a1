-- That a holder has the ends of its objects, once some more are attached.
use Rattle.std.specs.Prelude.{◌≡◌, ◌≢◌, ◌<◌, ◌≤◌, ◌⊎◌, ◌==◌, ◌||◌, ◌++◌, ◌∷◌, [], ℕ, Bool, true, false, cond, List, Option, Some, None, All, length, map, filter, unwrap_or, if◌then◌else◌, refl}
use Rattle.std.specs.List.{list_any}
use Rattle.std.proofs.Common.{arith, sym, ap, ◌∙◌, subst, inl, inr}
use Rattle.std.proofs.lemmas.Bool.{cases_eq, eq-eqb, ne_eqb}
use Rattle.std.proofs.lemmas.List.{append-nil, map-append}
use Rattle.std.proofs.lemmas.List.Elements.{All-append, All-cons, All-filter, All-head, All-nil, All-tail, filter-append}
use Rattle.std.proofs.lemmas.List.Folds.{list_any-append}
use Rattle.zq_base.specs.declared.ids.EndId.{EndId}
use Rattle.spec_control.specs.declared.end.Reason.{Reason}
use Rattle.spec_control.specs.declared.end.EndState.TheVariants.{Active}
use Rattle.spec_control.specs.Place.{Place, At, is_here}
use Rattle.spec_control.specs.Control.{Control, is_end, met_in, owner_of, place_of}
use Rattle.spec_control.specs.Held.{Held}
use Rattle.control_laws.proofs.ListLemmas.{never}
use Rattle.control_laws.proofs.AskLemmas.{end_self, same_end}
use Rattle.desk.specs.Holding.{Holding, Joined, KeepsTurns, BeginsActive, Stays, has_end}
use Rattle.desk.specs.Lent.{has_writer, here_ends, place_by, owner_by, HasBothNames, HasEnds, HasAll}
use Rattle.ctl_moves.proofs.HeldLemmas.{has_listed}
use Rattle.ctl_moves.specs.Joined.{IsFresh, Attaches, Gets}

-- ---- lists
-- two tests that agree on all elements pick the same
filter_same : (p q : EndId → Bool) (P : EndId → Type 0) → ((e : EndId) → P e → p e ≡ q e) → (es : List EndId) → All P es → filter p es ≡ filter q es
filter_same p q P agree [] all = refl
filter_same p q P agree (e ∷ es) all = pick (agree e (All-head P e es all)) (filter_same p q P agree es (All-tail P e es all))
  where
    pick : p e ≡ q e → filter p es ≡ filter q es → cond (p e) (e ∷ filter p es) (filter p es) ≡ cond (q e) (e ∷ filter q es) (filter q es)
    pick is rest = ap (λ (b : Bool). cond b (e ∷ filter p es) (filter p es)) is ∙ ap (λ (xs : List EndId). cond (q e) (e ∷ xs) xs) rest

-- all pass, or none
filter_all : (p : EndId → Bool) (es : List EndId) → All (λ e. p e ≡ true) es → filter p es ≡ es
filter_all p [] all = refl
filter_all p (e ∷ es) all =
    ap (λ (b : Bool). cond b (e ∷ filter p es) (filter p es)) (All-head (λ x. p x ≡ true) e es all) ∙ ap (λ (xs : List EndId). e ∷ xs) (filter_all p es (All-tail (λ x. p x ≡ true) e es all))

filter_none : (p : EndId → Bool) (es : List EndId) → All (λ e. p e ≡ false) es → filter p es ≡ []
filter_none p [] all = refl
filter_none p (e ∷ es) all =
    ap (λ (b : Bool). cond b (e ∷ filter p es) (filter p es)) (All-head (λ x. p x ≡ false) e es all) ∙ filter_none p es (All-tail (λ x. p x ≡ false) e es all)

-- what is so of each element is so of an end that is among them
pub among_all : (P : EndId → Type 0) (e : EndId) (es : List EndId) → All P es → list_any (is_end e) es ≡ true → P e
among_all P e [] all h = absurd (never h)
among_all P e (d ∷ es) all h = by (λ k. among_all P e es (All-tail P d es all) k) (is_end e d) refl h
  where
    by : (list_any (is_end e) es ≡ true → P e) → (b : Bool) → is_end e d ≡ b → (b || list_any (is_end e) es) ≡ true → P e
    by more true same k = subst P (sym (same_end e d same)) (All-head P d es all)
    by more false other k = more k

-- an end that is among those that pass a test is among all
pub among_some : (p : EndId → Bool) (e : EndId) (es : List EndId) → list_any (is_end e) (filter p es) ≡ true → list_any (is_end e) es ≡ true
among_some p e [] h = h
among_some p e (d ∷ es) h = by (p d) h (among_some p e es)
  where
    or_right : (b c : Bool) → c ≡ true → (b || c) ≡ true
    or_right true c is = refl
    or_right false c is = is

    by : (b : Bool) → list_any (is_end e) (cond b (d ∷ filter p es) (filter p es)) ≡ true → (list_any (is_end e) (filter p es) ≡ true → list_any (is_end e) es ≡ true) → (is_end e d || list_any (is_end e) es) ≡ true
    by true k later = split (is_end e d) k
      where
        split : (c : Bool) → (c || list_any (is_end e) (filter p es)) ≡ true → (c || list_any (is_end e) es) ≡ true
        split true j = refl
        split false j = later j
    by false k later = or_right (is_end e d) (list_any (is_end e) es) (later k)

or_cases : (a b : Bool) → (a || b) ≡ true → (a ≡ true) ⊎ (b ≡ true)
or_cases true b h = inl refl
or_cases false b h = inr h

weaken : (P Q : EndId → Type 0) → ((e : EndId) → P e → Q e) → (es : List EndId) → All P es → All Q es
weaken P Q more es all k d lt = more _ (all k d lt)

-- an end that a holder has is of a pair that was drawn
pub held_known : {N : Type 0} (names : EndId → Option N) (c : Control) (h : Holding N) (i : ℕ) → All (λ e. e.pair.0 < length c.rows.pairs) c.attached → HasEnds names c.rows.pairs c.attached c.reasons h i →
    (e : EndId) → has_end e (h.ends i) ≡ true → e.pair.0 < length c.rows.pairs
held_known names c h i known has e here =
    among_all (λ x. x.pair.0 < length c.rows.pairs) e c.attached known
    (among_some (λ x. owner_by c.rows.pairs x == i) e c.attached
    (among_some (λ x. is_here (place_by c.rows.pairs x)) e (filter (λ x. owner_by c.rows.pairs x == i) c.attached)
    (sym (ap (list_any (is_end e)) has.ends) ∙ sym (has_listed e (h.ends i)) ∙ here)))

-- and no end of a pair that is drawn next
pub not_held : {N : Type 0} (names : EndId → Option N) (c : Control) (h : Holding N) (i : ℕ) → All (λ e. e.pair.0 < length c.rows.pairs) c.attached → HasEnds names c.rows.pairs c.attached c.reasons h i →
    (e : EndId) → length c.rows.pairs ≤ e.pair.0 → has_end e (h.ends i) ≡ false
not_held names c h i known has e past = by (has_end e (h.ends i)) refl
  where
    by : (b : Bool) → has_end e (h.ends i) ≡ b → has_end e (h.ends i) ≡ false
    by false is = is
    by true is = absurd (both (held_known names c h i known has e is))
      where
        both : e.pair.0 < length c.rows.pairs → ⊥
        both less = omega (arith, less, past)

module _ (c d : Control) (o : ℕ) (es : List EndId) (a : Attaches c d o es) (known : All (λ e. e.pair.0 < length c.rows.pairs) c.attached) where
  old_owners : (i : ℕ) → filter (λ e. owner_of d e == i) c.attached ≡ filter (λ e. owner_of c e == i) c.attached
  old_owners i = filter_same _ _ (λ e. e.pair.0 < length c.rows.pairs) (λ e k. ap (λ (n : ℕ). n == i) (a.owners e k)) c.attached known

  mine_known : (i : ℕ) → All (λ e. e.pair.0 < length c.rows.pairs) (filter (λ e. owner_of c e == i) c.attached)
  mine_known i = All-filter (λ e. owner_of c e == i) (λ e. e.pair.0 < length c.rows.pairs) c.attached known

  old_here : (i : ℕ) → here_ends d.rows.pairs c.attached i ≡ here_ends c.rows.pairs c.attached i
  old_here i =
      ap (λ (xs : List EndId). filter (λ e. is_here (place_of d e)) xs) (old_owners i)
      ∙ filter_same _ _ (λ e. e.pair.0 < length c.rows.pairs) (λ e k. ap is_here (a.places e k)) (filter (λ e. owner_of c e == i) c.attached) (mine_known i)

  split_here : (i : ℕ) → here_ends d.rows.pairs d.attached i ≡ here_ends c.rows.pairs c.attached i ++ filter (λ e. is_here (place_of d e)) (filter (λ e. owner_of d e == i) es)
  split_here i =
      ap (λ (xs : List EndId). here_ends d.rows.pairs xs i) a.attached
      ∙ ap (λ (xs : List EndId). filter (λ e. is_here (place_of d e)) xs) (filter-append (λ e. owner_of d e == i) c.attached es)
      ∙ filter-append (λ e. is_here (place_of d e)) (filter (λ e. owner_of d e == i) c.attached) (filter (λ e. owner_of d e == i) es)
      ∙ ap (λ (xs : List EndId). xs ++ filter (λ e. is_here (place_of d e)) (filter (λ e. owner_of d e == i) es)) (old_here i)

  pub here_more : here_ends d.rows.pairs d.attached o ≡ here_ends c.rows.pairs c.attached o ++ es
  here_more =
      split_here o
      ∙ ap (λ (xs : List EndId). here_ends c.rows.pairs c.attached o ++ filter (λ e. is_here (place_of d e)) xs)
      (filter_all (λ e. owner_of d e == o) es (weaken (λ e. owner_of d e ≡ o) (λ e. (owner_of d e == o) ≡ true) (λ e is. eq-eqb (owner_of d e) o is) es a.theirs))
      ∙ ap (λ (xs : List EndId). here_ends c.rows.pairs c.attached o ++ xs)
      (filter_all (λ e. is_here (place_of d e)) es (weaken (λ e. IsFresh (place_of d e)) (λ e. is_here (place_of d e) ≡ true) (λ e is. is.here) es a.fresh))

  pub here_else : (i : ℕ) → i ≢ o → here_ends d.rows.pairs d.attached i ≡ here_ends c.rows.pairs c.attached i
  here_else i other =
      split_here i
      ∙ ap (λ (xs : List EndId). here_ends c.rows.pairs c.attached i ++ filter (λ e. is_here (place_of d e)) xs)
      (filter_none (λ e. owner_of d e == i) es (weaken (λ e. owner_of d e ≡ o) (λ e. (owner_of d e == i) ≡ false) (λ e is. ne_eqb (owner_of d e) i (λ same. other (sym same ∙ is))) es a.theirs))
      ∙ append-nil (here_ends c.rows.pairs c.attached i)

  module _ {N : Type 0} (names : EndId → Option N) (hs : List (Held N)) (h k : Holding N) (g : Gets (length c.rows.pairs) o hs h k) (are : map (λ x. x.end) hs ≡ es) (named : All (HasBothNames names) hs)
      (stated : (e : EndId) → has_end e hs ≡ true → place_of d e ≡ At (k.state e)) where
    new_among : (e : EndId) → has_end e hs ≡ true → list_any (is_end e) es ≡ true
    new_among e here = sym (ap (list_any (is_end e)) are) ∙ sym (has_listed e hs) ∙ here

    writes_new : (e : EndId) (xs : List (Held N)) → All (λ x. k.writes x.end ≡ true) xs → has_end e xs ≡ true → k.writes e ≡ true
    writes_new e [] all here = absurd (never here)
    writes_new e (x ∷ xs) all here = by (λ j. writes_new e xs (All-tail (λ y. k.writes y.end ≡ true) x xs all) j) (is_end e x.end) refl here
      where
        by : (has_end e xs ≡ true → k.writes e ≡ true) → (b : Bool) → is_end e x.end ≡ b → (b || has_end e xs) ≡ true → k.writes e ≡ true
        by more true same j = ap k.writes (same_end e x.end same) ∙ All-head (λ y. k.writes y.end ≡ true) x xs all
        by more false other j = more j

    -- where an end that it has then comes from
    had_or_new : (i : ℕ) (e : EndId) → has_end e (k.ends i) ≡ true → (has_end e (h.ends i) ≡ true) ⊎ ((i ≡ o) × (has_end e hs ≡ true))
    had_or_new i e here =
        elim (cases_eq i o) [
          | inl same ↦
              split same (or_cases (has_end e (h.ends o)) (has_end e hs)
              (sym (list_any-append (λ x. is_end e x.end) (h.ends o) hs) ∙ sym (ap (has_end e) g.ends) ∙ sym (ap (λ (n : ℕ). has_end e (k.ends n)) same) ∙ here))
          | inr other ↦ inl (sym (ap (has_end e) (g.others i other)) ∙ here)
        ]
      where
        split : i ≡ o → (has_end e (h.ends o) ≡ true) ⊎ (has_end e hs ≡ true) → (has_end e (h.ends i) ≡ true) ⊎ ((i ≡ o) × (has_end e hs ≡ true))
        split same (inl old) = inl (ap (λ (n : ℕ). has_end e (h.ends n)) same ∙ old)
        split same (inr new) = inr (same, new)

    ends_now : (i : ℕ) → HasEnds names c.rows.pairs c.attached c.reasons h i → map (λ x. x.end) (k.ends i) ≡ here_ends d.rows.pairs d.attached i
    ends_now i has =
        elim (cases_eq i o) [
          | inl same ↦
              subst (λ (n : ℕ). map (λ x. x.end) (k.ends n) ≡ here_ends d.rows.pairs d.attached n) (sym same)
              (ap (λ (xs : List (Held N)). map (λ x. x.end) xs) g.ends ∙ map-append (λ x. x.end) (h.ends o) hs
              ∙ ap (λ (xs : List EndId). xs ++ map (λ x. x.end) hs) (subst (λ (n : ℕ). map (λ x. x.end) (h.ends n) ≡ here_ends c.rows.pairs c.attached n) same has.ends)
              ∙ ap (λ (xs : List EndId). here_ends c.rows.pairs c.attached o ++ xs) are ∙ sym here_more)
          | inr other ↦ ap (λ (xs : List (Held N)). map (λ x. x.end) xs) (g.others i other) ∙ has.ends ∙ sym (here_else i other)
        ]

    named_now : (i : ℕ) → HasEnds names c.rows.pairs c.attached c.reasons h i → All (HasBothNames names) (k.ends i)
    named_now i has =
        elim (cases_eq i o) [
          | inl same ↦
              subst (λ (n : ℕ). All (HasBothNames names) (k.ends n)) (sym same)
              (subst (λ (xs : List (Held N)). All (HasBothNames names) xs) (sym g.ends)
              (All-append (HasBothNames names) (h.ends o) hs (subst (λ (n : ℕ). All (HasBothNames names) (h.ends n)) same has.named) named))
          | inr other ↦ subst (λ (xs : List (Held N)). All (HasBothNames names) xs) (sym (g.others i other)) has.named
        ]

    writes_now : (i : ℕ) → HasEnds names c.rows.pairs c.attached c.reasons h i → (e : EndId) → has_end e (k.ends i) ≡ true → k.writes e ≡ has_writer (place_of d e)
    writes_now i has e here =
        elim (had_or_new i e here) [
          | inl old ↦ let within = held_known names c h i known has e old in g.writers e within ∙ has.writes e old ∙ sym (ap has_writer (a.places e within))
          | inr new ↦ writes_new e hs g.mine new.1 ∙ sym (among_all (λ x. IsFresh (place_of d x)) e es a.fresh (new_among e new.1)).writer
        ]

    met_now : (i : ℕ) → HasEnds names c.rows.pairs c.attached c.reasons h i → (e : EndId) → has_end e (k.ends i) ≡ true → met_in (place_of d e) (d.reasons e) ≡ true → k.at_delimiter e ≡ true
    met_now i has e here met =
        elim (had_or_new i e here) [
          | inl old ↦
              let within = held_known names c h i known has e old in
              g.delimiters i e old (has.delimiters e old
              (ap (λ (r : Option Reason). met_in (place_of c e) r) (sym (a.reasons e within)) ∙ ap (λ (p : Place). met_in p (d.reasons e)) (sym (a.places e within)) ∙ met))
          | inr new ↦ absurd (never (sym ((among_all (λ x. IsFresh (place_of d x)) e es a.fresh (new_among e new.1)).unmet (d.reasons e)) ∙ met))
        ]

    states_now : (i : ℕ) → HasEnds names c.rows.pairs c.attached c.reasons h i → (e : EndId) → has_end e (k.ends i) ≡ true → place_of d e ≡ At (k.state e)
    states_now i has e here =
        elim (had_or_new i e here) [
          | inl old ↦ let within = held_known names c h i known has e old in a.places e within ∙ has.states e old ∙ ap At (sym (g.states i e within here))
          | inr new ↦ stated e new.1
        ]

    pub has_more : HasAll names c h → HasAll names d k
    has_more has i holds =
        let was = has i (sym (g.objects i) ∙ holds) in
        record { ends = ends_now i was; named = named_now i was; writes = writes_now i was; delimiters = met_now i was; states = states_now i was }

-- ---- at the holder
or_left : (a b : Bool) → a ≡ true → (a || b) ≡ true
or_left true b is = refl
or_left false b is = absurd (never is)

or_right : (a b : Bool) → b ≡ true → (a || b) ≡ true
or_right true b is = refl
or_right false b is = is

module _ {N : Type 0} where
  pub stay_same : (o : ℕ) (m k : Holding N) → Stays o m k → (i : ℕ) → k.ends i ≡ m.ends i
  stay_same o m k stays i =
      elim (cases_eq i o) [
        | inl same ↦ subst (λ (n : ℕ). k.ends n ≡ m.ends n) (sym same) stays.now.ends
        | inr other ↦ stays.now.others i other
      ]

  -- an end that was there stands before those that came
  pub still_there : (o : ℕ) (hs : List (Held N)) (h k : Holding N) → k.ends o ≡ h.ends o ++ hs → ((i : ℕ) → i ≢ o → k.ends i ≡ h.ends i) → (i : ℕ) (e : EndId) → has_end e (h.ends i) ≡ true → has_end e (k.ends i) ≡ true
  still_there o hs h k ends others i e here =
      elim (cases_eq i o) [
        | inl same ↦
            subst (λ (n : ℕ). has_end e (k.ends n) ≡ true) (sym same)
            (ap (has_end e) ends ∙ list_any-append (λ y. is_end e y.end) (h.ends o) hs ∙ or_left (has_end e (h.ends o)) (has_end e hs) (sym (ap (λ (n : ℕ). has_end e (h.ends n)) same) ∙ here))
        | inr other ↦ ap (has_end e) (others i other) ∙ here
      ]

  -- an end that is there, and is not the one that joined, was there
  was_there : (o : ℕ) (x : Held N) (m k : Holding N) → Joined o x m k → (i : ℕ) (e : EndId) → is_end e x.end ≡ false → has_end e (k.ends i) ≡ true → has_end e (m.ends i) ≡ true
  was_there o x m k joined i e other here =
      elim (cases_eq i o) [
        | inl same ↦
            subst (λ (n : ℕ). has_end e (m.ends n) ≡ true) (sym same)
            (only (has_end e (m.ends o)) (is_end e x.end) other
            (sym (list_any-append (λ y. is_end e y.end) (m.ends o) (x ∷ [])) ∙ sym (ap (has_end e) joined.now.ends) ∙ subst (λ (n : ℕ). has_end e (k.ends n) ≡ true) same here))
        | inr elsewhere ↦ sym (ap (has_end e) (joined.now.others i elsewhere)) ∙ here
      ]
    where
      only : (a b : Bool) → b ≡ false → (a || (b || false)) ≡ true → a ≡ true
      only true b f g = refl
      only false true f g = absurd (never (sym f))
      only false false f g = g

  -- an end that joins is Active
  pub attach_active : (o : ℕ) (x : Held N) (m k : Holding N) → Joined o x m k → BeginsActive x.end m k → k.state x.end ≡ Active
  attach_active o x m k joined begins =
      begins.states o x.end (ap (has_end x.end) joined.now.ends ∙ list_any-append (λ y. is_end x.end y.end) (m.ends o) (x ∷ []) ∙ or_right (has_end x.end (m.ends o)) (is_end x.end x.end || false) (or_left (is_end x.end x.end) false (end_self x.end)))
      ∙ ap (λ (b : Bool). unwrap_or (if b then Some Active else None) (m.state x.end)) (end_self x.end)

  -- all stayed, and an end joined
  pub attach_gets : (o : ℕ) (x : Held N) (h m k : Holding N) → Stays o h m → KeepsTurns h m → Joined o x m k → BeginsActive x.end m k → (n : ℕ) → n ≤ x.end.pair.0 → Gets n o (x ∷ []) h k
  attach_gets o x h m k stays keeps joined begins n past = record {
    ends = joined.now.ends ∙ ap (λ (hs : List (Held N)). hs ++ x ∷ []) stays.now.ends;
    others = λ i other. joined.now.others i other ∙ stays.now.others i other;
    objects = λ i. joined.now.objects i ∙ stays.now.objects i;
    kinds = λ i. joined.now.kinds i ∙ stays.now.kinds i;
    output = λ i. joined.now.output i ∙ stays.now.output i;
    writers = λ e less. joined.writers e ∙ ap (λ (b : Bool). if b then true else m.writes e) (another e less (is_end e x.end) refl) ∙ stays.writers e;
    mine = All-cons (λ y. k.writes y.end ≡ true) x [] (joined.writers x.end ∙ ap (λ (b : Bool). if b then true else m.writes x.end) (end_self x.end)) (All-nil (λ y. k.writes y.end ≡ true));
    delimiters = λ i e here at.
        (let mid = ap (has_end e) (stay_same o h m stays i) ∙ here in
        joined.now.delimiters i e (still_there o (x ∷ []) m k joined.now.ends joined.now.others i e mid) (stays.now.delimiters i e mid at));
    states = λ i e less here.
        (let other = another e less (is_end e x.end) refl in
        begins.states i e here ∙ ap (λ (b : Bool). unwrap_or (if b then Some Active else None) (m.state e)) other ∙ keeps.states i e (was_there o x m k joined i e other here));
  }
    where
      another : (e : EndId) → e.pair.0 < n → (b : Bool) → is_end e x.end ≡ b → is_end e x.end ≡ false
      another e less false is = is
      another e less true is = absurd (both (ap (λ (d : EndId). d.pair.0) (same_end e x.end is)))
        where
          both : e.pair.0 ≡ x.end.pair.0 → ⊥
          both same = omega (arith, same, less, past)

  -- and then all stayed
  pub gets_stays : (n o : ℕ) (hs : List (Held N)) (h m k : Holding N) → Gets n o hs h m → Stays o m k → ((i : ℕ) (e : EndId) → e.pair.0 < n → has_end e (k.ends i) ≡ true → k.state e ≡ m.state e) → Gets n o hs h k
  gets_stays n o hs h m k gets stays same = record {
    ends = stays.now.ends ∙ gets.ends;
    others = λ i other. stays.now.others i other ∙ gets.others i other;
    objects = λ i. stays.now.objects i ∙ gets.objects i;
    kinds = λ i. stays.now.kinds i ∙ gets.kinds i;
    output = λ i. stays.now.output i ∙ gets.output i;
    writers = λ e less. stays.writers e ∙ gets.writers e less;
    mine = λ j y lt. stays.writers _ ∙ gets.mine j y lt;
    delimiters = λ i e here at.
        stays.now.delimiters i e (ap (has_end e) (stay_same o m k stays i) ∙ still_there o hs h m gets.ends gets.others i e here) (gets.delimiters i e here at);
    states = λ i e less here. same i e less here ∙ gets.states i e less (sym (ap (has_end e) (stay_same o m k stays i)) ∙ here);
  }

  module _ (n o : ℕ) (x : Held N) (h k : Holding N) (gets : Gets n o (x ∷ []) h k) where
    -- the end is there, with its writing half
    pub gets_has : has_end x.end (k.ends o) ≡ true
    gets_has =
        ap (has_end x.end) gets.ends ∙ list_any-append (λ y. is_end x.end y.end) (h.ends o) (x ∷ [])
        ∙ or_right (has_end x.end (h.ends o)) (is_end x.end x.end || false) (or_left (is_end x.end x.end) false (end_self x.end))

    pub gets_writes : k.writes x.end ≡ true
    gets_writes = All-head (λ y. k.writes y.end ≡ true) x [] gets.mine

  -- a holder whose ends stayed has what it had
  pub has_stays : (names : EndId → Option N) (c : Control) (o : ℕ) (h k : Holding N) → Stays o h k → KeepsTurns h k → HasAll names c h → HasAll names c k
  has_stays names c o h k stays keeps has i holds =
      let was = has i (sym (stays.now.objects i) ∙ holds) in
      let same = stay_same o h k stays i in
      record {
        ends = ap (λ (hs : List (Held N)). map (λ x. x.end) hs) same ∙ was.ends;
        named = subst (λ (hs : List (Held N)). All (HasBothNames names) hs) (sym same) was.named;
        writes = λ e here. stays.writers e ∙ was.writes e (sym (ap (has_end e) same) ∙ here);
        delimiters = λ e here met. stays.now.delimiters i e here (was.delimiters e (sym (ap (has_end e) same) ∙ here) met);
        states = λ e here. was.states e (sym (ap (has_end e) same) ∙ here) ∙ ap At (sym (keeps.states i e here));
      }
