-- What is found, struck and joined among the holds of one mark.
use Rattle.std.specs.Prelude.{◌≡◌, ◌||◌, ℕ, Bool, true, false, cond, List, [], ◌∷◌, ◌++◌, Option, Some, None, IsSome, filter, find, nat_eq, option_to_list, refl}
use Rattle.std.specs.List.{list_any}
use Rattle.std.specs.Map.{lookup}
use Rattle.std.specs.Option.{option_map_or}
use Rattle.std.proofs.Common.{sym, ap, ◌∙◌, subst}
use Rattle.std.proofs.lemmas.Bool.{eq-eqb, eqb-true, false≢true, true≢false}
use Rattle.std.proofs.lemmas.List.Elements.{filter-append}
use Rattle.zq_base.specs.declared.endpoint.Endpoint.{Endpoint}
use Rattle.zq_base.specs.declared.ids.PairId.{PairId}
use Rattle.spec_control.specs.EndpointBook.{without_first}
use Rattle.endpoint_book.proofs.OrderLemmas.{any_within, first_others, first_within}
use Rattle.ctl_state.specs.declared.hold.Held.{Held}
use Rattle.ctl_state.specs.declared.hold.Held.TheVariants.{Bound, Waits, Joined}
use Rattle.ctl_state.specs.declared.hold.Hold.{Hold}
use Rattle.ctl_state.specs.declared.hold.Sought.{Sought}
use Rattle.ctl_state.specs.declared.hold.Sought.TheVariants.{Bind, Connect, Waiting}
use Rattle.ctl_state.specs.declared.hold_change.Change.{Change}
use Rattle.ctl_state.specs.Holds.{hold_at, is_sought, joined, joined_first, seeks}
use Rattle.ctl_state.specs.Marks.{mark_of, has_mark, at_mark, HoldRows, AreMarked, HaveFirsts, Adds, Puts, after_change, after_all}
use Rattle.ctl_state.proofs.HoldLemmas.{same_endpoint}

-- what is sought is of its endpoint
same_at : (sought : Sought) (to at : Endpoint) (held : Held) → is_sought sought to (hold_at at held) ≡ true → at ≡ to
same_at Bind to at (Bound listener) h = same_endpoint at to h
same_at Bind to at Waits h = absurd (false≢true h)
same_at Bind to at (Joined pair session) h = absurd (false≢true h)
same_at Connect to at (Bound listener) h = absurd (false≢true h)
same_at Connect to at Waits h = same_endpoint at to h
same_at Connect to at (Joined pair session) h = same_endpoint at to h
same_at Waiting to at (Bound listener) h = absurd (false≢true h)
same_at Waiting to at Waits h = same_endpoint at to h
same_at Waiting to at (Joined pair session) h = absurd (false≢true h)

-- so it has its mark
pub sought_there : (sought : Sought) (to : Endpoint) (h : Hold) → seeks sought to h ≡ true → has_mark (mark_of to) h ≡ true
sought_there sought to h passes = eq-eqb (mark_of to) (mark_of h.at) (ap mark_of (sym (same_at sought to h.at h.held passes)))

-- and no other
marks_apart : (mark m : ℕ) → nat_eq mark m ≡ false → (h : Hold) → has_mark m h ≡ true → has_mark mark h ≡ false
marks_apart mark m other h here = by (has_mark mark h) refl
  where
    by : (b : Bool) → has_mark mark h ≡ b → b ≡ false
    by true there = absurd (true≢false (sym (eq-eqb mark m (eqb-true mark (mark_of h.at) there ∙ sym (eqb-true m (mark_of h.at) here))) ∙ other))
    by false there = refl

pub sought_apart : (sought : Sought) (to : Endpoint) (m : ℕ) → nat_eq (mark_of to) m ≡ false → (h : Hold) → has_mark m h ≡ true → seeks sought to h ≡ false
sought_apart sought to m other h here = by (seeks sought to h) refl
  where
    by : (b : Bool) → seeks sought to h ≡ b → b ≡ false
    by true passes = absurd (true≢false (sym (sought_there sought to h passes) ∙ marks_apart (mark_of to) m other h here))
    by false passes = refl

module _ {X : Type 0} where
  -- the first that passes is the first of a wider filter
  find_within : (r q : X → Bool) → ((x : X) → r x ≡ true → q x ≡ true) → (xs : List X) → find r (filter q xs) ≡ find r xs
  find_within r q within [] = refl
  find_within r q within (x ∷ xs) = by (r x) (q x) refl refl (within x) (find_within r q within xs)
    where
      by : (b c : Bool) → r x ≡ b → q x ≡ c → (r x ≡ true → q x ≡ true) → find r (filter q xs) ≡ find r xs
          → find r (cond c (x ∷ filter q xs) (filter q xs)) ≡ cond b (Some x) (find r xs)
      by true true hr hq w rest = ap (λ b. cond b (Some x) (find r (filter q xs))) hr
      by true false hr hq w rest = absurd (true≢false (sym (w hr) ∙ hq))
      by false true hr hq w rest = ap (λ b. cond b (Some x) (find r (filter q xs))) hr ∙ rest
      by false false hr hq w rest = rest

  -- where none passes, none does without the first of others
  pub none_left : (r q : X → Bool) (xs : List X) → filter q xs ≡ [] → filter q (without_first r xs) ≡ []
  none_left r q [] none = refl
  none_left r q (x ∷ xs) none = by (q x) (r x) refl none (none_left r q xs)
    where
      by : (c b : Bool) → q x ≡ c → cond c (x ∷ filter q xs) (filter q xs) ≡ [] → (filter q xs ≡ [] → filter q (without_first r xs) ≡ [])
          → filter q (cond b xs (x ∷ without_first r xs)) ≡ []
      by true b hq none rest = absurd (cons none)
        where
          cons : x ∷ filter q xs ≡ [] → ⊥
          cons e = cc
      by false true hq none rest = none
      by false false hq none rest = ap (λ c. cond c (x ∷ filter q (without_first r xs)) (filter q (without_first r xs))) hq ∙ rest none

  -- the first that passes, and those behind it
  pub first_back : (q : X → Bool) (xs : List X) (y : X) → Some y ≡ find q xs → y ∷ filter q (without_first q xs) ≡ filter q xs
  first_back q [] y e = absurd (some e)
    where
      some : Some y ≡ None → ⊥
      some e = cc
  first_back q (x ∷ xs) y e = by (q x) refl e (first_back q xs y)
    where
      by : (b : Bool) → q x ≡ b → Some y ≡ cond b (Some x) (find q xs) → (Some y ≡ find q xs → y ∷ filter q (without_first q xs) ≡ filter q xs)
          → y ∷ filter q (cond b xs (x ∷ without_first q xs)) ≡ cond b (x ∷ filter q xs) (filter q xs)
      by true hq is rest = ap (λ z. z ∷ filter q xs) (same is)
        where
          same : Some y ≡ Some x → y ≡ x
          same e = cc
      by false hq is rest = ap (λ c. y ∷ cond c (x ∷ filter q (without_first q xs)) (filter q (without_first q xs))) hq ∙ rest is

  -- none passes where the first is none
  pub none_filtered : (q : X → Bool) (xs : List X) → list_any q xs ≡ false → filter q xs ≡ []
  none_filtered q [] none = refl
  none_filtered q (x ∷ xs) none = by (q x) none (none_filtered q xs)
    where
      by : (b : Bool) → (b || list_any q xs) ≡ false → (list_any q xs ≡ false → filter q xs ≡ []) → cond b (x ∷ filter q xs) (filter q xs) ≡ []
      by true none rest = absurd (true≢false none)
      by false none rest = rest none

  -- one that is found passes
  pub not_filtered : (q : X → Bool) (xs : List X) → list_any q xs ≡ true → filter q xs ≡ [] → ⊥
  not_filtered q [] some none = absurd (false≢true some)
  not_filtered q (x ∷ xs) some none = by (q x) some none (not_filtered q xs)
    where
      by : (b : Bool) → (b || list_any q xs) ≡ true → cond b (x ∷ filter q xs) (filter q xs) ≡ [] → (list_any q xs ≡ true → filter q xs ≡ [] → ⊥) → ⊥
      by true some none rest = cc
      by false some none rest = rest some none

  -- behind a first that isn't sought
  pub found_behind : (r : X → Bool) (first : Option X) (xs : List X) → option_map_or r first false ≡ false → find r (option_to_list first ++ xs) ≡ find r xs
  found_behind r None xs other = refl
  found_behind r (Some x) xs other = ap (λ b. cond b (Some x) (find r xs)) other

  pub struck_behind : (r : X → Bool) (first : Option X) (xs : List X) → option_map_or r first false ≡ false
      → without_first r (option_to_list first ++ xs) ≡ option_to_list first ++ without_first r xs
  struck_behind r None xs other = refl
  struck_behind r (Some x) xs other = ap (λ b. cond b xs (x ∷ without_first r xs)) other

  pub any_behind : (r : X → Bool) (first : Option X) (xs : List X) → option_map_or r first false ≡ false → list_any r (option_to_list first ++ xs) ≡ list_any r xs
  any_behind r None xs other = refl
  any_behind r (Some x) xs other = ap (λ b. b || list_any r xs) other

module _ (at : Endpoint) (pair : PairId) where
  pub joined_behind : (first : Option Hold) (xs : List Hold) → option_map_or (seeks Waiting at) first false ≡ false
      → joined_first at pair (option_to_list first ++ xs) ≡ option_to_list first ++ joined_first at pair xs
  joined_behind None xs other = refl
  joined_behind (Some x) xs other = ap (λ b. cond b (joined pair x ∷ xs) (x ∷ joined_first at pair xs)) other

  -- a hold that was joined has its mark still
  joined_within : (m : ℕ) → ((h : Hold) → seeks Waiting at h ≡ true → has_mark m h ≡ true) → (xs : List Hold)
      → joined_first at pair (filter (has_mark m) xs) ≡ filter (has_mark m) (joined_first at pair xs)
  joined_within m within [] = refl
  joined_within m within (x ∷ xs) = by (seeks Waiting at x) (has_mark m x) refl refl (within x) (joined_within m within xs)
    where
      by : (b c : Bool) → seeks Waiting at x ≡ b → has_mark m x ≡ c → (seeks Waiting at x ≡ true → has_mark m x ≡ true)
          → joined_first at pair (filter (has_mark m) xs) ≡ filter (has_mark m) (joined_first at pair xs)
          → joined_first at pair (cond c (x ∷ filter (has_mark m) xs) (filter (has_mark m) xs)) ≡ filter (has_mark m) (cond b (joined pair x ∷ xs) (x ∷ joined_first at pair xs))
      by true true hr hq w rest =
          ap (λ b. cond b (joined pair x ∷ filter (has_mark m) xs) (x ∷ joined_first at pair (filter (has_mark m) xs))) hr
          ∙ sym (ap (λ b. cond b (joined pair x ∷ filter (has_mark m) xs) (filter (has_mark m) xs)) hq)
      by true false hr hq w rest = absurd (true≢false (sym (w hr) ∙ hq))
      by false true hr hq w rest =
          ap (λ b. cond b (joined pair x ∷ filter (has_mark m) xs) (x ∷ joined_first at pair (filter (has_mark m) xs))) hr ∙ ap (λ l. x ∷ l) rest
          ∙ sym (ap (λ b. cond b (x ∷ filter (has_mark m) (joined_first at pair xs)) (filter (has_mark m) (joined_first at pair xs))) hq)
      by false false hr hq w rest = rest ∙ sym (ap (λ b. cond b (x ∷ filter (has_mark m) (joined_first at pair xs)) (filter (has_mark m) (joined_first at pair xs))) hq)

  joined_others : (m : ℕ) → ((h : Hold) → has_mark m h ≡ true → seeks Waiting at h ≡ false) → (xs : List Hold)
      → filter (has_mark m) (joined_first at pair xs) ≡ filter (has_mark m) xs
  joined_others m apart [] = refl
  joined_others m apart (x ∷ xs) = by (seeks Waiting at x) (has_mark m x) refl refl (apart x) (joined_others m apart xs)
    where
      by : (b c : Bool) → seeks Waiting at x ≡ b → has_mark m x ≡ c → (has_mark m x ≡ true → seeks Waiting at x ≡ false)
          → filter (has_mark m) (joined_first at pair xs) ≡ filter (has_mark m) xs
          → filter (has_mark m) (cond b (joined pair x ∷ xs) (x ∷ joined_first at pair xs)) ≡ cond c (x ∷ filter (has_mark m) xs) (filter (has_mark m) xs)
      by true true hr hq a rest = absurd (true≢false (sym hr ∙ a hq))
      by true false hr hq a rest = ap (λ b. cond b (joined pair x ∷ filter (has_mark m) xs) (filter (has_mark m) xs)) hq
      by false true hr hq a rest = ap (λ b. cond b (x ∷ filter (has_mark m) (joined_first at pair xs)) (filter (has_mark m) (joined_first at pair xs))) hq ∙ ap (λ l. x ∷ l) rest
      by false false hr hq a rest = ap (λ b. cond b (x ∷ filter (has_mark m) (joined_first at pair xs)) (filter (has_mark m) (joined_first at pair xs))) hq ∙ rest

  -- where no hold has a mark, none has it then
  pub joined_none_left : (m : ℕ) (xs : List Hold) → filter (has_mark m) xs ≡ [] → filter (has_mark m) (joined_first at pair xs) ≡ []
  joined_none_left m [] none = refl
  joined_none_left m (x ∷ xs) none = by (has_mark m x) (seeks Waiting at x) refl none (joined_none_left m xs)
    where
      by : (c b : Bool) → has_mark m x ≡ c → cond c (x ∷ filter (has_mark m) xs) (filter (has_mark m) xs) ≡ []
          → (filter (has_mark m) xs ≡ [] → filter (has_mark m) (joined_first at pair xs) ≡ [])
          → filter (has_mark m) (cond b (joined pair x ∷ xs) (x ∷ joined_first at pair xs)) ≡ []
      by true b hq none rest = absurd (cons none)
        where
          cons : x ∷ filter (has_mark m) xs ≡ [] → ⊥
          cons e = cc
      by false true hq none rest = ap (λ c. cond c (joined pair x ∷ filter (has_mark m) xs) (filter (has_mark m) xs)) hq ∙ none
      by false false hq none rest = ap (λ c. cond c (x ∷ filter (has_mark m) (joined_first at pair xs)) (filter (has_mark m) (joined_first at pair xs))) hq ∙ rest none

-- the rows, where those of one mark were changed among the others
puts_others : (f : List Hold → List Hold) (mark : ℕ) (old new : HoldRows) → new.firsts ≡ old.firsts → new.others ≡ f old.others → new.spare ≡ old.spare
    → f (filter (has_mark mark) old.others) ≡ filter (has_mark mark) (f old.others)
    → ((m : ℕ) → nat_eq mark m ≡ false → filter (has_mark m) (f old.others) ≡ filter (has_mark m) old.others)
    → Puts mark (option_to_list (lookup (nat_eq mark) old.firsts) ++ f (filter (has_mark mark) old.others)) old new
puts_others f mark old new firsts others spare within apart = record { at = λ m. by m (nat_eq mark m) refl; spare = spare }
  where
    rows : (m : ℕ) → at_mark new m ≡ option_to_list (lookup (nat_eq m) old.firsts) ++ filter (has_mark m) (f old.others)
    rows m = ap (λ (es : List (ℕ × Hold)). option_to_list (lookup (nat_eq m) es) ++ filter (has_mark m) new.others) firsts
        ∙ ap (λ (hs : List Hold). option_to_list (lookup (nat_eq m) old.firsts) ++ filter (has_mark m) hs) others

    by : (m : ℕ) (b : Bool) → nat_eq mark m ≡ b
        → at_mark new m ≡ cond b (option_to_list (lookup (nat_eq mark) old.firsts) ++ f (filter (has_mark mark) old.others)) (at_mark old m)
    by m true same =
        rows m ∙ ap (λ (n : ℕ). option_to_list (lookup (nat_eq n) old.firsts) ++ filter (has_mark n) (f old.others)) (sym (eqb-true mark m same))
        ∙ ap (λ (hs : List Hold). option_to_list (lookup (nat_eq mark) old.firsts) ++ hs) (sym within)
    by m false other = rows m ∙ ap (λ (hs : List Hold). option_to_list (lookup (nat_eq m) old.firsts) ++ hs) (apart m other)

-- the first of the others that is sought went, where the first of the mark isn't
pub puts_struck : (sought : Sought) (to : Endpoint) (old new : HoldRows) → new.firsts ≡ old.firsts → new.others ≡ without_first (seeks sought to) old.others → new.spare ≡ old.spare
    → option_map_or (seeks sought to) (lookup (nat_eq (mark_of to)) old.firsts) false ≡ false
    → Puts (mark_of to) (without_first (seeks sought to) (at_mark old (mark_of to))) old new
puts_struck sought to old new firsts others spare other =
    subst (λ (hs : List Hold). Puts (mark_of to) hs old new) (sym (struck_behind (seeks sought to) (lookup (nat_eq (mark_of to)) old.firsts) (filter (has_mark (mark_of to)) old.others) other))
    (puts_others (without_first (seeks sought to)) (mark_of to) old new firsts others spare
    (first_within (seeks sought to) (has_mark (mark_of to)) (sought_there sought to) old.others)
    (λ m apart. first_others (seeks sought to) (has_mark m) (sought_apart sought to m apart) old.others))

pub puts_joined : (at : Endpoint) (pair : PairId) (old new : HoldRows) → new.firsts ≡ old.firsts → new.others ≡ joined_first at pair old.others → new.spare ≡ old.spare
    → option_map_or (seeks Waiting at) (lookup (nat_eq (mark_of at)) old.firsts) false ≡ false
    → Puts (mark_of at) (joined_first at pair (at_mark old (mark_of at))) old new
puts_joined at pair old new firsts others spare other =
    subst (λ (hs : List Hold). Puts (mark_of at) hs old new) (sym (joined_behind at pair (lookup (nat_eq (mark_of at)) old.firsts) (filter (has_mark (mark_of at)) old.others) other))
    (puts_others (joined_first at pair) (mark_of at) old new firsts others spare
    (joined_within at pair (mark_of at) (sought_there Waiting at) old.others)
    (λ m apart. joined_others at pair m (sought_apart Waiting at m apart) old.others))

-- it is found behind the first
pub found_other : (sought : Sought) (to : Endpoint) (rows : HoldRows) → option_map_or (seeks sought to) (lookup (nat_eq (mark_of to)) rows.firsts) false ≡ false
    → find (seeks sought to) rows.others ≡ find (seeks sought to) (at_mark rows (mark_of to))
found_other sought to rows other =
    sym (found_behind (seeks sought to) (lookup (nat_eq (mark_of to)) rows.firsts) (filter (has_mark (mark_of to)) rows.others) other
    ∙ find_within (seeks sought to) (has_mark (mark_of to)) (sought_there sought to) rows.others)

pub any_other : (sought : Sought) (to : Endpoint) (rows : HoldRows) → option_map_or (seeks sought to) (lookup (nat_eq (mark_of to)) rows.firsts) false ≡ false
    → list_any (seeks sought to) rows.others ≡ list_any (seeks sought to) (at_mark rows (mark_of to))
any_other sought to rows other =
    sym (any_behind (seeks sought to) (lookup (nat_eq (mark_of to)) rows.firsts) (filter (has_mark (mark_of to)) rows.others) other
    ∙ any_within (seeks sought to) (has_mark (mark_of to)) (sought_there sought to) rows.others)

-- a mark with one among the others has a first
pub first_there : (mark : ℕ) (firsts : List (ℕ × Hold)) (others : List Hold) → HaveFirsts firsts others → list_any (has_mark mark) others ≡ true → IsSome (lookup (nat_eq mark) firsts)
first_there mark firsts others have some = by (lookup (nat_eq mark) firsts) (λ none. not_filtered (has_mark mark) others some (have mark none))
  where
    by : (o : Option Hold) → (o ≡ None → ⊥) → IsSome o
    by None never = absurd (never refl)
    by (Some x) never = refl

-- where a mark has no first after one was put, it had none
pub none_before : {X : Type 0} (b : Bool) (x : X) (o : Option X) → cond b (Some x) o ≡ None → o ≡ None
none_before true x o none = absurd (some none)
  where
    some : Some x ≡ None → ⊥
    some e = cc
none_before false x o none = none

-- the first of a mark went that had no other
pub last_gone : (mark : ℕ) (old new : List (ℕ × Hold)) (others : List Hold) → HaveFirsts old others → list_any (has_mark mark) others ≡ false
    → ((m : ℕ) → lookup (nat_eq m) new ≡ cond (nat_eq mark m) None (lookup (nat_eq m) old)) → HaveFirsts new others
last_gone mark old new others have none gone m e = by (nat_eq mark m) refl (sym (gone m) ∙ e)
  where
    by : (b : Bool) → nat_eq mark m ≡ b → cond b None (lookup (nat_eq m) old) ≡ None → filter (has_mark m) others ≡ []
    by true same e = ap (λ (n : ℕ). filter (has_mark n) others) (sym (eqb-true mark m same)) ∙ none_filtered (has_mark mark) others none
    by false other e = have m e

-- the first of the mark went, and the next one is there
pub puts_next : (mark : ℕ) (next : Hold) (old new : HoldRows) → ((m : ℕ) → lookup (nat_eq m) new.firsts ≡ cond (nat_eq mark m) (Some next) (lookup (nat_eq m) old.firsts))
    → new.others ≡ without_first (has_mark mark) old.others → new.spare ≡ old.spare → Some next ≡ find (has_mark mark) old.others
    → Puts mark (filter (has_mark mark) old.others) old new
puts_next mark next old new firsts others spare is = record { at = λ m. by m (nat_eq mark m) refl; spare = spare }
  where
    rows : (m : ℕ) → at_mark new m ≡ option_to_list (cond (nat_eq mark m) (Some next) (lookup (nat_eq m) old.firsts)) ++ filter (has_mark m) (without_first (has_mark mark) old.others)
    rows m = ap (λ (o : Option Hold). option_to_list o ++ filter (has_mark m) new.others) (firsts m)
        ∙ ap (λ (hs : List Hold). option_to_list (cond (nat_eq mark m) (Some next) (lookup (nat_eq m) old.firsts)) ++ filter (has_mark m) hs) others

    by : (m : ℕ) (b : Bool) → nat_eq mark m ≡ b → at_mark new m ≡ cond b (filter (has_mark mark) old.others) (at_mark old m)
    by m true same =
        rows m ∙ ap (λ (b : Bool). option_to_list (cond b (Some next) (lookup (nat_eq m) old.firsts)) ++ filter (has_mark m) (without_first (has_mark mark) old.others)) same
        ∙ ap (λ (n : ℕ). next ∷ filter (has_mark n) (without_first (has_mark mark) old.others)) (sym (eqb-true mark m same))
        ∙ first_back (has_mark mark) old.others next is
    by m false other =
        rows m ∙ ap (λ (b : Bool). option_to_list (cond b (Some next) (lookup (nat_eq m) old.firsts)) ++ filter (has_mark m) (without_first (has_mark mark) old.others)) other
        ∙ ap (λ (hs : List Hold). option_to_list (lookup (nat_eq m) old.firsts) ++ hs) (first_others (has_mark mark) (has_mark m) (marks_apart mark m other) old.others)

-- the holds are found by their marks after a change of those of one
pub marked_after : (f : List Hold → List Hold) (mark : ℕ) (holds : List Hold) (old new : HoldRows) → AreMarked holds old
    → f (filter (has_mark mark) holds) ≡ filter (has_mark mark) (f holds)
    → ((m : ℕ) → nat_eq mark m ≡ false → filter (has_mark m) (f holds) ≡ filter (has_mark m) holds)
    → Puts mark (f (at_mark old mark)) old new → AreMarked (f holds) new
marked_after f mark holds old new are within apart puts m = puts.at m ∙ by (nat_eq mark m) refl
  where
    by : (b : Bool) → nat_eq mark m ≡ b → cond b (f (at_mark old mark)) (at_mark old m) ≡ filter (has_mark m) (f holds)
    by true same = ap f (are mark) ∙ within ∙ ap (λ (n : ℕ). filter (has_mark n) (f holds)) (eqb-true mark m same)
    by false other = are m ∙ sym (apart m other)

pub marked_struck : (sought : Sought) (to : Endpoint) (holds : List Hold) (old new : HoldRows) → AreMarked holds old
    → Puts (mark_of to) (without_first (seeks sought to) (at_mark old (mark_of to))) old new → AreMarked (without_first (seeks sought to) holds) new
marked_struck sought to holds old new are puts =
    marked_after (without_first (seeks sought to)) (mark_of to) holds old new are
    (first_within (seeks sought to) (has_mark (mark_of to)) (sought_there sought to) holds)
    (λ m apart. first_others (seeks sought to) (has_mark m) (sought_apart sought to m apart) holds) puts

pub marked_joined : (at : Endpoint) (pair : PairId) (holds : List Hold) (old new : HoldRows) → AreMarked holds old
    → Puts (mark_of at) (joined_first at pair (at_mark old (mark_of at))) old new → AreMarked (joined_first at pair holds) new
marked_joined at pair holds old new are puts =
    marked_after (joined_first at pair) (mark_of at) holds old new are
    (joined_within at pair (mark_of at) (sought_there Waiting at) holds)
    (λ m apart. joined_others at pair m (sought_apart Waiting at m apart) holds) puts

-- one more is found by its mark
pub marked_more : (hold : Hold) (holds : List Hold) (old new : HoldRows) → AreMarked holds old → Adds hold old new → AreMarked (holds ++ hold ∷ []) new
marked_more hold holds old new are adds m =
    adds.at m ∙ ap (λ (hs : List Hold). hs ++ cond (has_mark m hold) (hold ∷ []) []) (are m) ∙ sym (filter-append (has_mark m) holds (hold ∷ []))

-- what is found by its mark is found
pub found_marked : (sought : Sought) (to : Endpoint) (holds : List Hold) (rows : HoldRows) → AreMarked holds rows
    → find (seeks sought to) (at_mark rows (mark_of to)) ≡ find (seeks sought to) holds
found_marked sought to holds rows are =
    ap (find (seeks sought to)) (are (mark_of to)) ∙ find_within (seeks sought to) (has_mark (mark_of to)) (sought_there sought to) holds

-- a change more
after_all-more : (holds : List Hold) (cs : List (Endpoint × Change)) (c : Endpoint × Change) → after_all holds (cs ++ c ∷ []) ≡ after_change c (after_all holds cs)
after_all-more holds [] c = refl
after_all-more holds (d ∷ cs) c = after_all-more (after_change d holds) cs c

-- after one more, as the history has it
pub after_one : (past more : List (Endpoint × Change)) (c : Endpoint × Change) → more ≡ past ++ c ∷ [] → after_all [] more ≡ after_change c (after_all [] past)
after_one past more c is = ap (after_all []) is ∙ after_all-more [] past c
