-- That the kept lists stay those of the control state.
use Rattle.std.specs.Prelude.{◌≡◌, ◌<◌, ◌≤◌, ◌⊎◌, ◌==◌, ℕ, Bool, true, false, cond, if◌then◌else◌, List, [], ◌∷◌, ◌++◌, All, filter, length, map, slice_index_or, slice_set, refl}
use Rattle.std.proofs.Common.{arith, sym, ap, ◌∙◌, subst, inl, inr}
use Rattle.std.proofs.lemmas.Bool.{cases_eq, cases_lt, eq-eqb, ne_eqb}
use Rattle.std.proofs.lemmas.List.{append-nil, length-set, length_push, get_or-set_same, get_or-set_other, get_or_append_left, get_or_past, set_past}
use Rattle.std.proofs.lemmas.List.Elements.{All-head, All-tail, All-push, All-weaker, filter-append, filter_agree}
use Rattle.zq_base.specs.declared.ids.EndId.{EndId}
use Rattle.spec_control.specs.Hold.{Hold as HoldSaid}
use Rattle.spec_control.specs.Place.{Place}
use Rattle.spec_control.specs.Rows.{PairRow, no_pair, with_places, end_owner}
use Rattle.spec_control.specs.Control.{with_value}
use Rattle.ctl_state.specs.declared.hold.Hold.{Hold}
use Rattle.ctl_state.specs.declared.belongings.Belongings.{Belongings}
use Rattle.ctl_state.specs.Listed.{Listed, no_list, with_last}
use Rattle.ctl_state.specs.Lists.{no_belongings, belongings_at, room_for, hold_of, with_ends, with_holds, ends_among, AreListed}
use Rattle.ctl_state.proofs.ReadLemmas.{placed_where, read_kept, pushed_same}

-- tests that agree on each element of a list keep the same
filter_same : {X : Type 0} (p q : X → Bool) (xs : List X) → All (λ x. p x ≡ q x) xs → filter p xs ≡ filter q xs
filter_same p q [] h = refl
filter_same p q (x ∷ xs) h =
    ap (λ (b : Bool). cond b (x ∷ filter p xs) (filter p xs)) (All-head (λ x. p x ≡ q x) x xs h)
    ∙ ap (λ ys. cond (q x) (x ∷ ys) ys) (filter_same p q xs (All-tail (λ x. p x ≡ q x) x xs h))

pub owners_same : (a b : Bool) (m t : Place) (p : PairRow) → end_owner (with_places a m t p) b ≡ end_owner p b
owners_same true true m t p = refl
owners_same true false m t p = refl
owners_same false true m t p = refl
owners_same false false m t p = refl

-- a list with ends that has room has a place
pub room_placed : (lists : List Belongings) (i : ℕ) → 0 < (belongings_at lists i).ends.spare → i < length lists
room_placed lists i h = placed_where (λ (b : Belongings). b.ends.spare) lists i no_belongings (λ e. none e)
  where
    none : (belongings_at lists i).ends.spare ≡ 0 → ⊥
    none e = omega (arith, h, e)

pub hold_placed : (lists : List Belongings) (i : ℕ) → 0 < (belongings_at lists i).holds.spare → i < length lists
hold_placed lists i h = placed_where (λ (b : Belongings). b.holds.spare) lists i no_belongings (λ e. none e)
  where
    none : (belongings_at lists i).holds.spare ≡ 0 → ⊥
    none e = omega (arith, h, e)

module _ (lists : List Belongings) (pairs : List PairRow) (attached : List EndId) (holds : ℕ → List HoldSaid) (h : AreListed lists pairs attached holds) where
  -- a pair whose ends are elsewhere has its owners still
  pub moved_listed : (k : ℕ) (a : Bool) (m t : Place) → AreListed lists (slice_set pairs k (with_places a m t (slice_index_or pairs k no_pair))) attached holds
  moved_listed k a m t = record {
    ends = λ i. h.ends i ∙ filter_agree _ _ (λ e. ap (λ (n : ℕ). n == i)
        (sym (read_kept (λ (p : PairRow). end_owner p e.a) pairs k e.pair.0 (with_places a m t (slice_index_or pairs k no_pair)) no_pair
        (owners_same a e.a m t (slice_index_or pairs k no_pair))))) attached;
    held = h.held;
    known = All-weaker (λ e. e.pair.0 < length pairs) (λ e. e.pair.0 < length (slice_set pairs k (with_places a m t (slice_index_or pairs k no_pair))))
        (λ e below. subst (λ (n : ℕ). e.pair.0 < n) (sym (length-set pairs k (with_places a m t (slice_index_or pairs k no_pair)))) below) attached h.known;
  }

  -- a pair more has no end that is attached
  pub drawn_listed : (row : PairRow) → AreListed lists (pairs ++ row ∷ []) attached holds
  drawn_listed row = record {
    ends = λ i. h.ends i ∙ filter_same _ _ attached (All-weaker (λ e. e.pair.0 < length pairs)
        (λ e. (end_owner (slice_index_or pairs e.pair.0 no_pair) e.a == i) ≡ (end_owner (slice_index_or (pairs ++ row ∷ []) e.pair.0 no_pair) e.a == i))
        (λ e below. ap (λ (p : PairRow). end_owner p e.a == i) (sym (get_or_append_left pairs (row ∷ []) no_pair e.pair.0 below))) attached h.known);
    held = h.held;
    known = All-weaker (λ e. e.pair.0 < length pairs) (λ e. e.pair.0 < length (pairs ++ row ∷ []))
        (λ e below. omega (arith, below, length_push pairs row)) attached h.known;
  }

  -- an end is attached to its owner
  pub attached_listed : (e : EndId) (o : ℕ) → end_owner (slice_index_or pairs e.pair.0 no_pair) e.a ≡ o → e.pair.0 < length pairs → o < length lists →
      AreListed (with_ends (with_last e) o lists) pairs (attached ++ e ∷ []) holds
  attached_listed e o owner below there = record {
    ends = λ i. at i (cases_eq i o);
    held = λ i. read_kept (λ (b : Belongings). map hold_of b.holds.items) lists o i now no_belongings refl ∙ h.held i;
    known = All-push (λ e. e.pair.0 < length pairs) attached e h.known below;
  }
    where
      now : Belongings
      now = record (belongings_at lists o) { ends = with_last e (belongings_at lists o).ends }

      mine : ℕ → Bool
      mine i = end_owner (slice_index_or pairs e.pair.0 no_pair) e.a == i

      more : (i : ℕ) → ends_among i pairs (attached ++ e ∷ []) ≡ ends_among i pairs attached ++ cond (mine i) (e ∷ []) []
      more i = filter-append (λ (d : EndId). end_owner (slice_index_or pairs d.pair.0 no_pair) d.a == i) attached (e ∷ [])

      at : (i : ℕ) → (i ≡ o) ⊎ (i ≡ o → ⊥) → (belongings_at (slice_set lists o now) i).ends.items ≡ ends_among i pairs (attached ++ e ∷ [])
      at i (inl same) =
          subst (λ (n : ℕ). (belongings_at (slice_set lists o now) n).ends.items ≡ ends_among n pairs (attached ++ e ∷ [])) (sym same)
          (ap (λ (b : Belongings). b.ends.items) (get_or-set_same lists o now no_belongings there)
          ∙ ap (λ (xs : List EndId). xs ++ e ∷ []) (h.ends o)
          ∙ sym (more o ∙ ap (λ (b : Bool). ends_among o pairs attached ++ cond b (e ∷ []) []) (eq-eqb _ o owner)))
      at i (inr other) =
          ap (λ (b : Belongings). b.ends.items) (get_or-set_other lists o i now no_belongings other)
          ∙ h.ends i
          ∙ sym (more i ∙ ap (λ (b : Bool). ends_among i pairs attached ++ cond b (e ∷ []) []) (ne_eqb _ i (λ k. other (sym (sym owner ∙ k))))
          ∙ append-nil (ends_among i pairs attached))

  -- a socket's holds are changed
  pub held_listed : (f : Listed Hold → Listed Hold) (i : ℕ) (said : List HoldSaid) → i < length lists → map hold_of (f (belongings_at lists i).holds).items ≡ said →
      AreListed (with_holds f i lists) pairs attached (with_value i said holds)
  held_listed f i said there is = record {
    ends = λ j. read_kept (λ (b : Belongings). b.ends.items) lists i j now no_belongings refl ∙ h.ends j;
    held = λ j. at j (cases_eq j i);
    known = h.known;
  }
    where
      now : Belongings
      now = record (belongings_at lists i) { holds = f (belongings_at lists i).holds }

      at : (j : ℕ) → (j ≡ i) ⊎ (j ≡ i → ⊥) → map hold_of (belongings_at (slice_set lists i now) j).holds.items ≡ with_value i said holds j
      at j (inl same) =
          subst (λ (n : ℕ). map hold_of (belongings_at (slice_set lists i now) n).holds.items ≡ said) (sym same)
          (ap (λ (b : Belongings). map hold_of b.holds.items) (get_or-set_same lists i now no_belongings there) ∙ is)
          ∙ sym (ap (λ (b : Bool). if b then said else holds j) (eq-eqb j i same))
      at j (inr other) =
          ap (λ (b : Belongings). map hold_of b.holds.items) (get_or-set_other lists i j now no_belongings other)
          ∙ h.held j ∙ sym (ap (λ (b : Bool). if b then said else holds j) (ne_eqb j i other))

  -- an object more has nothing
  pub made_listed : (n : ℕ) → AreListed (lists ++ room_for n ∷ []) pairs attached holds
  made_listed n = record {
    ends = λ i. pushed_same (λ (b : Belongings). b.ends.items) lists (room_for n) no_belongings i refl ∙ h.ends i;
    held = λ i. pushed_same (λ (b : Belongings). map hold_of b.holds.items) lists (room_for n) no_belongings i refl ∙ h.held i;
    known = h.known;
  }

  -- more room, and the same elements
  pub room_listed : (i : ℕ) (now : Belongings) → now.ends.items ≡ (belongings_at lists i).ends.items → now.holds.items ≡ (belongings_at lists i).holds.items →
      AreListed (slice_set lists i now) pairs attached holds
  room_listed i now ends held = record {
    ends = λ j. read_kept (λ (b : Belongings). b.ends.items) lists i j now no_belongings ends ∙ h.ends j;
    held = λ j. read_kept (λ (b : Belongings). map hold_of b.holds.items) lists i j now no_belongings (ap (map hold_of) held) ∙ h.held j;
    known = h.known;
  }

  -- what is said to be held is held already
  pub same_held : (i : ℕ) (said : List HoldSaid) → holds i ≡ said → AreListed lists pairs attached (with_value i said holds)
  same_held i said is = record { ends = h.ends; held = λ j. h.held j ∙ at j (cases_eq j i); known = h.known }
    where
      at : (j : ℕ) → (j ≡ i) ⊎ (j ≡ i → ⊥) → holds j ≡ with_value i said holds j
      at j (inl same) = ap holds same ∙ is ∙ sym (ap (λ (b : Bool). if b then said else holds j) (eq-eqb j i same))
      at j (inr other) = sym (ap (λ (b : Bool). if b then said else holds j) (ne_eqb j i other))

  -- a socket's holds are changed, or nothing where it has none
  pub held_changed : (f : Listed Hold → Listed Hold) (i : ℕ) (said : List HoldSaid) → (f no_list).items ≡ [] → map hold_of (f (belongings_at lists i).holds).items ≡ said →
      AreListed (with_holds f i lists) pairs attached (with_value i said holds)
  held_changed f i said none is = by (cases_lt i (length lists))
    where
      by : (i < length lists) ⊎ (length lists ≤ i) → AreListed (with_holds f i lists) pairs attached (with_value i said holds)
      by (inl there) = held_listed f i said there is
      by (inr past) =
          let gone = get_or_past lists i no_belongings past in
          let had : holds i ≡ [] = sym (h.held i) ∙ ap (λ (b : Belongings). map hold_of b.holds.items) gone in
          let has : said ≡ [] = sym is ∙ ap (λ (b : Belongings). map hold_of (f b.holds).items) gone ∙ ap (map hold_of) none in
          subst (λ (ls : List Belongings). AreListed ls pairs attached (with_value i said holds)) (sym (set_past lists i (record (belongings_at lists i) { holds = f (belongings_at lists i).holds }) past)) (same_held i said (had ∙ sym has))
