-- A journal that is not done lists the objects that have not ended, and no others.
use Rattle.std.specs.Prelude.{◌≡◌, ◌≢◌, ◌<◌, ◌==◌, ◌+◌, ◌||◌, ℕ, zero, suc, Bool, true, false, cond, List, [], ◌∷◌, ◌++◌, Option, Some, None, count_by, flat_map, if◌then◌else◌, length, slice_get, codes, refl}
use Rattle.std.specs.List.{list_any}
use Rattle.std.proofs.Common.{arith, sym, ap, ◌∙◌}
use Rattle.std.proofs.lemmas.Bool.{eqb-true, eq-eqb}
use Rattle.std.proofs.lemmas.List.Sums.{sum_by-cons}
use Rattle.control_laws.proofs.ListLemmas.{never}
use Rattle.spec_control.specs.Control.{id}
use Rattle.spec_run.specs.declared.journal.ObjectLine.{ObjectLine}
use Rattle.spec_run.specs.declared.journal.ObjectRow.{ObjectRow}
use Rattle.spec_run.specs.declared.journal.Journal.{Journal}
use Rattle.spec_run.specs.JournalText.{live_text, living_text, over_text}
use Rattle.replay_laws.specs.ObjectsListed.{is_line_of, living_from, ListsTheLiving}

abbrev line_nr : ℕ → ObjectRow → ObjectLine
line_nr n o = record { object = id n; kind = o.kind }

-- the text of what lives, line by line
living_lines : (n : ℕ) (os : List ObjectRow) → living_text n os ≡ flat_map live_text (living_from n os)
living_lines n [] = refl
living_lines n (o ∷ os) = by o.ended (living_lines (n + 1) os)
  where
    by : (b : Bool) → living_text (n + 1) os ≡ flat_map live_text (living_from (n + 1) os)
        → (if b then living_text (n + 1) os else live_text (line_nr n o) ++ living_text (n + 1) os)
        ≡ flat_map live_text (if b then living_from (n + 1) os else line_nr n o ∷ living_from (n + 1) os)
    by true rest = rest
    by false rest = ap (λ (text : List ℕ). live_text (line_nr n o) ++ text) rest

over_lines : (done : Bool) (os : List ObjectRow) → over_text done os ≡ (if done then codes "done\n" else flat_map live_text (living_from 0 os) ++ codes "unfinished\n")
over_lines true os = refl
over_lines false os = ap (λ (text : List ℕ). text ++ codes "unfinished\n") (living_lines 0 os)

other_number : (a b : ℕ) → a ≢ b → (a == b) ≡ false
other_number a b other = by (a == b) refl
  where
    by : (x : Bool) → (a == b) ≡ x → (a == b) ≡ false
    by false e = e
    by true e = absurd (other (eqb-true a b e))

-- none of a smaller number is listed
none_below : (i n : ℕ) (os : List ObjectRow) → i < n → count_by (is_line_of i) (living_from n os) ≡ 0
none_below i n [] lt = refl
none_below i n (o ∷ os) lt = by o.ended (none_below i (n + 1) os (omega (arith, lt)))
  where
    other : (i == n) ≡ false
    other = other_number i n (λ same. omega (arith, lt, same))

    by : (b : Bool) → count_by (is_line_of i) (living_from (n + 1) os) ≡ 0
        → count_by (is_line_of i) (if b then living_from (n + 1) os else line_nr n o ∷ living_from (n + 1) os) ≡ 0
    by true rest = rest
    by false rest =
        let all = sum_by-cons (λ (l : ObjectLine). cond (is_line_of i l) 1 0) (line_nr n o) (living_from (n + 1) os) in
        let none : ◌≡◌ {A = ℕ} (cond (i == n) 1 0) 0 = ap {B = ℕ} (λ (b : Bool). cond b 1 0) other in omega (arith, all, rest, none)

some_is : {x y : ObjectRow} → Some x ≡ Some y → x ≡ y
some_is e = Prim.grind arith

none_some : {x : ObjectRow} → ◌≡◌ {A = Option ObjectRow} None (Some x) → ⊥
none_some e = Prim.grind arith

-- how often an object is listed
times_listed : (n m i : ℕ) (os : List ObjectRow) (o : ObjectRow) → i ≡ n + m → slice_get os m ≡ Some o → count_by (is_line_of i) (living_from n os) ≡ cond o.ended 0 1
times_listed n m i [] o at e = absurd (none_some e)
times_listed n zero i (r ∷ os) o at e = by r.ended refl (none_below i (n + 1) os (omega (arith, at)))
  where
    here : (i == n) ≡ true
    here = eq-eqb i n (omega (arith, at))

    same : r.ended ≡ o.ended
    same = ap (λ (x : ObjectRow). x.ended) (some_is e)

    by : (b : Bool) → r.ended ≡ b → count_by (is_line_of i) (living_from (n + 1) os) ≡ 0
        → count_by (is_line_of i) (if b then living_from (n + 1) os else line_nr n r ∷ living_from (n + 1) os) ≡ cond o.ended 0 1
    by true is rest = rest ∙ ap {B = ℕ} (λ (b : Bool). cond b 0 1) (sym is ∙ same)
    by false is rest =
        let all = sum_by-cons (λ (l : ObjectLine). cond (is_line_of i l) 1 0) (line_nr n r) (living_from (n + 1) os) in
        let one : ◌≡◌ {A = ℕ} (cond (i == n) 1 0) 1 = ap {B = ℕ} (λ (b : Bool). cond b 1 0) here in
        let is_one : ◌≡◌ {A = ℕ} 1 (cond o.ended 0 1) = ap {B = ℕ} (λ (b : Bool). cond b 0 1) (sym is ∙ same) in omega (arith, all, rest, one, is_one)
times_listed n (suc m) i (r ∷ os) o at e = by r.ended (times_listed (n + 1) m i os o (omega (arith, at)) e)
  where
    other : (i == n) ≡ false
    other = other_number i n (λ same. omega (arith, at, same))

    by : (b : Bool) → count_by (is_line_of i) (living_from (n + 1) os) ≡ cond o.ended 0 1
        → count_by (is_line_of i) (if b then living_from (n + 1) os else line_nr n r ∷ living_from (n + 1) os) ≡ cond o.ended 0 1
    by true rest = rest
    by false rest =
        let all = sum_by-cons (λ (l : ObjectLine). cond (is_line_of i l) 1 0) (line_nr n r) (living_from (n + 1) os) in
        let none : ◌≡◌ {A = ℕ} (cond (i == n) 1 0) 0 = ap {B = ℕ} (λ (b : Bool). cond b 1 0) other in omega (arith, all, rest, none)

-- who is listed was made
listed_below : (n i : ℕ) (os : List ObjectRow) → list_any (is_line_of i) (living_from n os) ≡ true → i < n + length os
listed_below n i [] h = absurd (never h)
listed_below n i (o ∷ os) h = by o.ended h (listed_below (n + 1) i os)
  where
    more : i < (n + 1) + length os → i < n + length (o ∷ os)
    more lt = omega (arith, lt)

    first : (b : Bool) → (i == n) ≡ b → (b || list_any (is_line_of i) (living_from (n + 1) os)) ≡ true → (list_any (is_line_of i) (living_from (n + 1) os) ≡ true → i < (n + 1) + length os)
        → i < n + length (o ∷ os)
    first true same k rest = let is = eqb-true i n same in omega (arith, is)
    first false same k rest = more (rest k)

    by : (b : Bool) → list_any (is_line_of i) (if b then living_from (n + 1) os else line_nr n o ∷ living_from (n + 1) os) ≡ true
        → (list_any (is_line_of i) (living_from (n + 1) os) ≡ true → i < (n + 1) + length os) → i < n + length (o ∷ os)
    by true k rest = more (rest k)
    by false k rest = first (i == n) refl k rest

pub lists_living : (j : Journal) → ListsTheLiving j
lists_living j = record {
  unfinished = over_lines j.done j.objects;
  each = λ i o e. times_listed 0 i i j.objects o (omega arith) e;
  only = λ i h. let below = listed_below 0 i j.objects h in omega (arith, below);
}
