-- A table of counts has those of each end.
use Rattle.std.specs.Prelude.{◌≡◌, ◌≢◌, ◌≤◌, ◌<◌, ◌+◌, ◌*◌, ℕ, zero, suc, Bool, true, false, List, [], ◌∷◌, Option, Some, None, if◌then◌else◌, slice_get, slice_index_or, slice_set, replicate, find, length, map, take, refl}
use Rattle.std.specs.Option.{option_map}
use Rattle.std.proofs.Common.{arith, sym, ap, ◌∙◌, subst, length-set, true≢false, get_or-set_same, get_or-set_other}
use Rattle.std.proofs.lemmas.List.{length-replicate}
use Rattle.std.proofs.lemmas.Option.{slice_get-get_or}
use Rattle.zq_base.specs.declared.ids.EndId.{EndId}
use Rattle.zq_base.specs.declared.ids.Settled.{Settled}
use Rattle.zq_base.specs.Ends.{other_end}
use Rattle.spec_control.specs.Control.{Control, Settlement, is_end, next_pair}
use Rattle.control_laws.proofs.AskLemmas.{end_self, same_end}
use Rattle.ctl_plane.specs.declared.settled.PipeCounts.{PipeCounts}
use Rattle.core_laws.specs.Table.{side_place, place_in}
use Rattle.plain_core.specs.Settled.{counts_in, noted_if, noted, noted_all, HasTable}

-- ---- places
side_small : (a : Bool) → side_place a ≤ 1
side_small true = omega arith
side_small false = omega arith

same_side_is : (a b : Bool) → side_place a ≡ side_place b → a ≡ b
same_side_is true true h = refl
same_side_is true false h = absurd (omega (arith, h))
same_side_is false true h = absurd (omega (arith, h))
same_side_is false false h = refl

same_place : (d e : EndId) → place_in d ≡ place_in e → d ≡ e
same_place d e h =
    let x = side_small d.a in let y = side_small e.a in
    let n : d.pair.0 ≡ e.pair.0 = omega (arith, h, x, y) in
    let s : side_place d.a ≡ side_place e.a = omega (arith, h, n) in
    ap (λ (k : ℕ). record { pair = record { 0 = k }; a = d.a }) n ∙ ap (λ (a : Bool). record { pair = e.pair; a = a }) (same_side_is d.a e.a s)

pub other_ends : (d e : EndId) → is_end d e ≡ false → place_in e ≢ place_in d
other_ends d e h same = true≢false (sym (end_self d) ∙ ap (is_end d) (sym (same_place e d same)) ∙ h)

-- ---- one note
many_if : (r : Option (Option Settled)) (x : PipeCounts) (t : List (Option Settled)) → length (noted_if r x t) ≡ length t
many_if None x t = refl
many_if (Some None) x t = length-set t (place_in x.end) (Some x.counts)
many_if (Some (Some old)) x t = refl

many_noted : (x : PipeCounts) (t : List (Option Settled)) → length (noted x t) ≡ length t
many_noted x t = many_if (slice_get t (place_in x.end)) x t

else_if : (r : Option (Option Settled)) (x : PipeCounts) (t : List (Option Settled)) (k : ℕ) → place_in x.end ≢ k → slice_index_or (noted_if r x t) k None ≡ slice_index_or t k None
else_if None x t k other = refl
else_if (Some None) x t k other = get_or-set_other t (place_in x.end) k (Some x.counts) None (λ same. other (sym same))
else_if (Some (Some old)) x t k other = refl

module _ (e : EndId) where
  abbrev counts_for : List PipeCounts → Option Settled
  counts_for xs = option_map (λ (x : PipeCounts). x.counts) (find (λ (x : PipeCounts). is_end e x.end) xs)

  abbrev at : List (Option Settled) → Option Settled
  at t = slice_index_or t (place_in e) None

  stays_if : (r : Option (Option Settled)) (x : PipeCounts) (t : List (Option Settled)) (s : Settled) → place_in x.end ≡ place_in e → place_in e < length t
      → r ≡ slice_get t (place_in x.end) → at t ≡ Some s → at (noted_if r x t) ≡ Some s
  stays_if None x t s same lt is has = has
  stays_if (Some (Some old)) x t s same lt is has = has
  stays_if (Some None) x t s same lt is has =
      absurd (none_or_some (ap (λ (o : Option (Option Settled)). or_none o) (is ∙ ap (slice_get t) same ∙ slice_get-get_or t (place_in e) None lt) ∙ has))
    where
      or_none : Option (Option Settled) → Option Settled
      or_none None = None
      or_none (Some r) = r

      none_or_some : {X : Type 0} {x : X} → None ≡ Some x → ⊥
      none_or_some h = grind arith

  stays : (xs : List PipeCounts) (t : List (Option Settled)) (s : Settled) → place_in e < length t → at t ≡ Some s → at (noted_all xs t) ≡ Some s
  stays [] t s lt has = has
  stays (x ∷ xs) t s lt has =
      let many = many_noted x t in
      stays xs (noted x t) s (omega (arith, lt, many)) (by (is_end e x.end) refl)
    where
      by : (b : Bool) → is_end e x.end ≡ b → at (noted x t) ≡ Some s
      by true is = stays_if (slice_get t (place_in x.end)) x t s (ap place_in (sym (same_end e x.end is))) lt refl has
      by false is = else_if (slice_get t (place_in x.end)) x t (place_in e) (other_ends e x.end is) ∙ has

  fills : (x : PipeCounts) (t : List (Option Settled)) → x.end ≡ e → place_in e < length t → at t ≡ None → at (noted x t) ≡ Some x.counts
  fills x t same lt none =
      ap (λ (r : Option (Option Settled)). at (noted_if r x t)) (ap (λ (y : EndId). slice_get t (place_in y)) same ∙ slice_get-get_or t (place_in e) None lt ∙ ap Some none)
      ∙ ap (λ (y : EndId). at (slice_set t (place_in y) (Some x.counts))) same
      ∙ get_or-set_same t (place_in e) (Some x.counts) None lt

  pub looked_up : (xs : List PipeCounts) (t : List (Option Settled)) → place_in e < length t → at t ≡ None → at (noted_all xs t) ≡ counts_for xs
  looked_up [] t lt none = none
  looked_up (x ∷ xs) t lt none = by (is_end e x.end) refl (λ left. looked_up xs (noted x t) now left)
    where
      now : place_in e < length (noted x t)
      now = let many = many_noted x t in omega (arith, lt, many)

      by : (b : Bool) → is_end e x.end ≡ b → (at (noted x t) ≡ None → at (noted_all xs (noted x t)) ≡ counts_for xs)
          → at (noted_all xs (noted x t)) ≡ option_map (λ (y : PipeCounts). y.counts) (if b then Some x else find (λ (y : PipeCounts). is_end e y.end) xs)
      by true is rest = stays xs (noted x t) x.counts now (fills x t (sym (same_end e x.end is)) lt none)
      by false is rest = rest (else_if (slice_get t (place_in x.end)) x t (place_in e) (other_ends e x.end is) ∙ none)

-- ---- the settlements of a control state
abbrev empties : ℕ → List (Option Settled)
empties n = replicate n None

no_counts_at : (n k : ℕ) → slice_index_or (empties n) k None ≡ None
no_counts_at zero k = refl
no_counts_at (suc n) zero = refl
no_counts_at (suc n) (suc k) = no_counts_at n k

counted_so : (e : EndId) (ss : List Settlement) → counts_for e (map counts_in ss) ≡ option_map (λ (s : Settlement). s.counts) (find (λ (s : Settlement). is_end e s.end) ss)
counted_so e [] = refl
counted_so e (s ∷ ss) = by (is_end e s.end) (counted_so e ss)
  where
    by : (b : Bool) → counts_for e (map counts_in ss) ≡ option_map (λ (x : Settlement). x.counts) (find (λ (x : Settlement). is_end e x.end) ss)
        → option_map (λ (x : PipeCounts). x.counts) (if b then Some (counts_in s) else find (λ (x : PipeCounts). is_end e x.end) (map counts_in ss))
        ≡ option_map (λ (x : Settlement). x.counts) (if b then Some s else find (λ (x : Settlement). is_end e x.end) ss)
    by true rest = refl
    by false rest = rest

pub has_table : (c : Control) (notes : List PipeCounts) → map counts_in c.settlements ≡ notes → HasTable c (noted_all notes (replicate (2 * next_pair c) None))
has_table c notes told p lt =
    let e = other_end p in
    let many : length (empties (2 * next_pair c)) ≡ 2 * next_pair c = length-replicate (2 * next_pair c) None in
    let side = side_small e.a in
    looked_up e notes (empties (2 * next_pair c)) (omega (arith, lt, many, side)) (no_counts_at (2 * next_pair c) (place_in e))
    ∙ ap (counts_for e) (sym told) ∙ counted_so e c.settlements

pub noted_more : (xs : List PipeCounts) (t : List (Option Settled)) (k : ℕ) (d : PipeCounts) → k < length xs → noted_all (take (k + 1) xs) t ≡ noted (slice_index_or xs k d) (noted_all (take k xs) t)
noted_more xs t k d lt = let same : k + 1 ≡ suc k = omega arith in ap (λ (i : ℕ). noted_all (take i xs) t) same ∙ by xs t k lt
  where
    by : (xs : List PipeCounts) (t : List (Option Settled)) (k : ℕ) → k < length xs → noted_all (take (suc k) xs) t ≡ noted (slice_index_or xs k d) (noted_all (take k xs) t)
    by [] t k lt = absurd (omega (arith, lt))
    by (x ∷ xs) t zero lt = refl
    by (x ∷ xs) t (suc k) lt = by xs (noted x t) k (omega (arith, lt))

-- so it is of the counts that the settlements have
pub table_told : (c : Control) (pairs : ℕ) (notes : List PipeCounts) (table : List (Option Settled)) → map counts_in c.settlements ≡ notes → pairs ≡ next_pair c
    → table ≡ noted_all notes (replicate (2 * pairs) None) → HasTable c table
table_told c pairs notes table told many is =
    subst (HasTable c) (sym (is ∙ ap (λ (n : ℕ). noted_all notes (replicate (2 * n) None)) many)) (has_table c notes told)

pub noted_next : (xs : List PipeCounts) (t old new : List (Option Settled)) (k : ℕ) (d : PipeCounts) → k < length xs → old ≡ noted_all (take k xs) t → new ≡ noted (slice_index_or xs k d) old
    → new ≡ noted_all (take (k + 1) xs) t
noted_next xs t old new k d lt before is = is ∙ ap (noted (slice_index_or xs k d)) before ∙ sym (noted_more xs t k d lt)
