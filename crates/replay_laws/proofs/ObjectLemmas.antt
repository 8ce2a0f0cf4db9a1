-- A journal lists the objects that have ended, each once and behind what it owns.
use Rattle.std.specs.Prelude.{◌≡◌, ◌<◌, ◌≤◌, ◌==◌, ◌||◌, ℕ, zero, suc, Bool, true, false, cond, List, [], ◌∷◌, ◌++◌, Option, Some, None, count_by, length, map, slice_get, slice_index_or, refl}
use Rattle.std.specs.List.{list_any, AllByRecursion}
use Rattle.std.proofs.Common.{arith, sym, ap, ◌∙◌}
use Rattle.std.proofs.lemmas.List.{length-map}
use Rattle.std.proofs.lemmas.List.Sums.{sum_by-cons}
use Rattle.zq_base.specs.declared.ids.ObjId.{ObjId}
use Rattle.control_laws.proofs.ListLemmas.{never}
use Rattle.spec_control.specs.Stage.{has_ended}
use Rattle.spec_control.specs.Row.{Row, nobody}
use Rattle.spec_control.specs.Rows.{obj}
use Rattle.spec_control.specs.Control.{Control}
use Rattle.spec_run.specs.declared.journal.ObjectLine.{ObjectLine}
use Rattle.spec_run.specs.declared.journal.ObjectRow.{ObjectRow}
use Rattle.spec_run.specs.Script.{Script}
use Rattle.spec_run.specs.OwnedRun.{OwnedRun}
use Rattle.spec_run.specs.Journal.{line_of, object_shown, journal_at}
use Rattle.run_laws.specs.EndOrder.{is_numbered, EndInOrder}
use Rattle.replay_laws.specs.ObjectsListed.{is_line_of, ShowsObject, ListsObjects}

-- ---- counts in lists

pub any_counts : {X : Type 0} (test : X → Bool) (xs : List X) → list_any test xs ≡ true → 1 ≤ count_by test xs
any_counts test [] h = absurd (never h)
any_counts test (x ∷ xs) h = by (test x) refl (any_counts test xs)
  where
    by : (b : Bool) → test x ≡ b → (list_any test xs ≡ true → 1 ≤ count_by test xs) → 1 ≤ count_by test (x ∷ xs)
    by true e rest =
        let all = sum_by-cons (λ y. cond (test y) 1 0) x xs in
        let one : ◌≡◌ {A = ℕ} (cond (test x) 1 0) 1 = ap {B = ℕ} (λ (b : Bool). cond b 1 0) e in omega (arith, all, one)
    by false e rest =
        let more = rest (sym (ap (λ (b : Bool). b || list_any test xs) e) ∙ h) in
        let all = sum_by-cons (λ y. cond (test y) 1 0) x xs in omega (arith, all, more)

pub none_counts : {X : Type 0} (test : X → Bool) (xs : List X) → list_any test xs ≡ false → count_by test xs ≡ 0
none_counts test [] h = refl
none_counts test (x ∷ xs) h = by (test x) refl (none_counts test xs)
  where
    by : (b : Bool) → test x ≡ b → (list_any test xs ≡ false → count_by test xs ≡ 0) → count_by test (x ∷ xs) ≡ 0
    by true e rest = absurd (never (sym h ∙ ap (λ (b : Bool). b || list_any test xs) e))
    by false e rest =
        let none = rest (sym (ap (λ (b : Bool). b || list_any test xs) e) ∙ h) in
        let all = sum_by-cons (λ y. cond (test y) 1 0) x xs in
        let zero_so : ◌≡◌ {A = ℕ} (cond (test x) 1 0) 0 = ap {B = ℕ} (λ (b : Bool). cond b 1 0) e in omega (arith, all, none, zero_so)

module _ (c : Control) (i : ℕ) where
  -- a line is of an object where its object is that one
  pub count_lines : (os : List ObjId) → count_by (is_line_of i) (map (line_of c) os) ≡ count_by (is_numbered i) os
  count_lines [] = refl
  count_lines (o ∷ os) =
      let rest = count_lines os in
      let lines = sum_by-cons (λ (l : ObjectLine). cond (is_line_of i l) 1 0) (line_of c o) (map (line_of c) os) in
      let numbers = sum_by-cons (λ (x : ObjId). cond (is_numbered i x) 1 0) o os in
      omega (arith, rest, lines, numbers)

  any_lines : (os : List ObjId) → list_any (is_line_of i) (map (line_of c) os) ≡ list_any (is_numbered i) os
  any_lines [] = refl
  any_lines (o ∷ os) = ap (λ (b : Bool). (i == o.0) || b) (any_lines os)

-- a row that is shown is that of an object that was made
record IsRowOf (rows : List Row) (i : ℕ) (o : ObjectRow) : Type 0 where
  there : i < length rows
  same : o ≡ object_shown (slice_index_or rows i nobody)

some_is : {x y : ObjectRow} → Some x ≡ Some y → x ≡ y
some_is e = Prim.grind arith

none_some : {x : ObjectRow} → ◌≡◌ {A = Option ObjectRow} None (Some x) → ⊥
none_some e = Prim.grind arith

row_of : (rows : List Row) (i : ℕ) (o : ObjectRow) → slice_get (map object_shown rows) i ≡ Some o → IsRowOf rows i o
row_of [] i o e = absurd (none_some e)
row_of (r ∷ rows) zero o e = record { there = omega arith; same = sym (some_is e) }
row_of (r ∷ rows) (suc i) o e = let rest = row_of rows i o e in record { there = below rest.there; same = rest.same }
  where
    below : i < length rows → suc i < length (r ∷ rows)
    below lt = omega (arith, lt)

-- ---- a list of lines, split

record IsSplit (c : Control) (os : List ObjId) (before after : List ObjectLine) (line : ObjectLine) : Type 0 where
  first : List ObjId
  object : ObjId
  rest : List ObjId
  whole : os ≡ first ++ object ∷ rest
  before_is : before ≡ map (line_of c) first
  line_is : line ≡ line_of c object

head_is : {x y : ObjectLine} {xs ys : List ObjectLine} → x ∷ xs ≡ y ∷ ys → x ≡ y
head_is e = Prim.grind arith

tail_is : {x y : ObjectLine} {xs ys : List ObjectLine} → x ∷ xs ≡ y ∷ ys → xs ≡ ys
tail_is e = Prim.grind arith

nil_cons : {x : ObjectLine} {xs : List ObjectLine} → [] ≡ x ∷ xs → ⊥
nil_cons e = Prim.grind arith

split : (c : Control) (os : List ObjId) (before after : List ObjectLine) (line : ObjectLine) → map (line_of c) os ≡ before ++ line ∷ after → IsSplit c os before after line
split c [] [] after line e = absurd (nil_cons e)
split c [] (x ∷ before) after line e = absurd (nil_cons e)
split c (o ∷ os) [] after line e = record { first = []; object = o; rest = os; whole = refl; before_is = refl; line_is = sym (head_is e) }
split c (o ∷ os) (x ∷ before) after line e =
    let rest = split c os before after line (tail_is e) in
    record {
      first = o ∷ rest.first;
      object = rest.object;
      rest = rest.rest;
      whole = ap (λ (xs : List ObjId). o ∷ xs) rest.whole;
      before_is = ap (λ (l : ObjectLine). l ∷ before) (sym (head_is e)) ∙ ap (λ (ls : List ObjectLine). line_of c o ∷ ls) rest.before_is;
      line_is = rest.line_is;
    }

-- ---- the objects of a journal

lines_so : (c : Control) (os : List ObjId) → AllByRecursion (λ (line : ObjectLine). line.kind ≡ (obj c.rows line.object.0).kind) (map (line_of c) os)
lines_so c [] = tt
lines_so c (o ∷ os) = (refl, lines_so c os)

module _ {N S : Type 0} (c : Control) (script : Script) (run : OwnedRun N S) (order : EndInOrder c) where
  -- how often an object that was made is listed as ended
  pub listed : (i : ℕ) → i < length c.rows.objects → (b : Bool) → has_ended (obj c.rows i).stage ≡ b → count_by (is_numbered i) c.ended ≡ cond b 1 0
  listed i lt true e =
      let some = any_counts (is_numbered i) c.ended (order.there i lt e) in
      let few = order.once i in omega (arith, some, few)
  listed i lt false e = by (list_any (is_numbered i) c.ended) refl
    where
      by : (b : Bool) → list_any (is_numbered i) c.ended ≡ b → count_by (is_numbered i) c.ended ≡ 0
      by true h = absurd (never (sym e ∙ order.only i h))
      by false h = none_counts (is_numbered i) c.ended h

  shown_so : (i : ℕ) (o : ObjectRow) → IsRowOf c.rows.objects i o → ShowsObject c i o
  shown_so i o r = record { kind = ap (λ (x : ObjectRow). x.kind) r.same; ended = ap (λ (x : ObjectRow). x.ended) r.same }

  ended_so : (i : ℕ) (o : ObjectRow) → IsRowOf c.rows.objects i o → count_by (is_line_of i) (map (line_of c) c.ended) ≡ cond o.ended 1 0
  ended_so i o r = count_lines c i c.ended ∙ listed i r.there o.ended (sym (ap (λ (x : ObjectRow). x.ended) r.same))

  owned_so : (before after : List ObjectLine) (line : ObjectLine) → map (line_of c) c.ended ≡ before ++ line ∷ after → (i : ℕ) → (obj c.rows i).owner ≡ Some line.object.0
      → list_any (is_line_of i) before ≡ true
  owned_so before after line e i owner =
      let s = split c c.ended before after line e in
      let mine : (obj c.rows i).owner ≡ Some s.object.0 = owner ∙ ap (λ (l : ObjectLine). Some l.object.0) s.line_is in
      ap (list_any (is_line_of i)) s.before_is ∙ (any_lines c i s.first ∙ order.owned_first s.first s.rest s.object s.whole i mine)

  pub lists_objects : ListsObjects c (journal_at c script run)
  lists_objects = record {
    made = length-map c.rows.objects object_shown;
    shown = λ i o e. shown_so i o (row_of c.rows.objects i o e);
    ended = λ i o e. ended_so i o (row_of c.rows.objects i o e);
    lines = lines_so c c.ended;
    owned_first = owned_so;
  }
