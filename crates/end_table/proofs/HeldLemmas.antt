-- Ends stay held through calls.
use Rattle.std.proofs.Common.{◌≡◌, ◌≢◌, ◌⊎◌, inl, inr, ⊎_elim, ℕ, List, [], ◌∷◌, set, Some, refl, sym, ap, ◌∙◌, subst, All}
use Rattle.std.proofs.lemmas.Bool.{cases_eq}
use Rattle.spec_pattern.specs.PipeStep.{PipeStep}
use Rattle.spec_pattern.specs.Half.{Writing}
use Rattle.msg_pipe.specs.Known.{Known, IsThere}
use Rattle.end_table.specs.declared.row.EndRow.{EndRow}
use Rattle.end_table.specs.Rows.{Rows, Table, row_at, IsRow}
use Rattle.end_table.specs.Held.{IsHeldAt, AreTwo, IsHeld}
use Rattle.end_table.specs.Runs.{CallsAt, OutCall, InCall, DoesOne, DoesAll}
use Rattle.end_table.proofs.RowLemmas.{some_same, at_place, at_else}

module _ {S O I N : Type 0} (K : Known S O I N) where
  -- the row at a place after a call: the one that came back, or the one that was there
  pub row_after : (old new : Table S O I) (place : ℕ) (row back : EndRow O I) → CallsAt K old new place row back → (k : ℕ) (r : EndRow O I) → row_at new.rows k ≡ Some r
      → ((k ≡ place) × (back ≡ r)) ⊎ ((k ≢ place) × (row_at old.rows k ≡ Some r))
  row_after old new place row back at k r is = ⊎_elim
      (λ (e : k ≡ place). inl (e, some_same back r (ap Some (sym at.back_is) ∙ sym (at_place old.rows place row at.boxed at.here) ∙ ap (λ (j : ℕ). row_at (set old.rows place (Some at.boxed)) j) (sym e) ∙ at_set)))
      (λ (ne : k ≢ place). inr (ne, sym (at_else old.rows place k at.boxed ne) ∙ at_set))
      (cases_eq k place)
    where
      at_set : row_at (set old.rows place (Some at.boxed)) k ≡ Some r
      at_set = ap (λ (l : Rows O I). row_at l k) (sym at.rows_are) ∙ is

  -- and where the row of a place has gone to
  pub row_before : (old new : Table S O I) (place : ℕ) (row back : EndRow O I) → CallsAt K old new place row back → row_at new.rows place ≡ Some back
  row_before old new place row back at = ap (λ (l : Rows O I). row_at l place) at.rows_are ∙ at_place old.rows place row at.boxed at.here ∙ ap Some at.back_is

  pub row_else : (old new : Table S O I) (place : ℕ) (row back : EndRow O I) → CallsAt K old new place row back → (k : ℕ) → k ≢ place → row_at new.rows k ≡ row_at old.rows k
  row_else old new place row back at k ne = ap (λ (l : Rows O I). row_at l k) at.rows_are ∙ at_else old.rows place k at.boxed ne

  -- what a call makes of each row: the same end, with halves of the same pipes
  pub record SameEnd (row back : EndRow O I) : Type 0 where
    pub end_is : back.end ≡ row.end
    pub out_is : K.out_name back.out ≡ K.out_name row.out
    pub in_is : K.in_name back.input ≡ K.in_name row.input

  same_end : (row : EndRow O I) → SameEnd row row
  same_end row = record { end_is = refl; out_is = refl; in_is = refl }

  -- two ends stay two
  two_kept : (a b c d : EndRow O I) → AreTwo K a b → SameEnd a c → SameEnd b d → AreTwo K c d
  two_kept a b c d two x y = record {
    ends = λ e. two.ends (sym x.end_is ∙ e ∙ y.end_is);
    outs = λ exact e. two.outs exact (sym x.out_is ∙ e ∙ y.out_is);
    ins = λ exact e. two.ins exact (sym x.in_is ∙ e ∙ y.in_is);
  }

  module _ (old new : Table S O I) (place : ℕ) (row back : EndRow O I) (at : CallsAt K old new place row back) (same : SameEnd row back) where
    -- each row of the new ones was a row of the same end
    pub was : (k : ℕ) (r : EndRow O I) → row_at new.rows k ≡ Some r → (q : EndRow O I) × (row_at old.rows k ≡ Some q) × SameEnd q r
    was k r is = ⊎_elim
        (λ (h : (k ≡ place) × (back ≡ r)). (row, ap (λ (j : ℕ). row_at old.rows j) h.0 ∙ at.here, subst (λ (x : EndRow O I). SameEnd row x) h.1 same))
        (λ (h : (k ≢ place) × (row_at old.rows k ≡ Some r)). (r, h.1, same_end r))
        (row_after old new place row back at k r is)

    all_two : IsHeld K old → (j k : ℕ) (a b : EndRow O I) → j ≢ k → row_at new.rows j ≡ Some a → row_at new.rows k ≡ Some b → AreTwo K a b
    all_two held j k a b ne x y =
        let p = was j a x in
        let q = was k b y in
        two_kept p.0 q.0 a b (held.two j k p.0 q.0 ne p.1 q.1) p.2 q.2

  pub out_same : (old : Table S O I) (s : PipeStep) (new : Table S O I) (c : OutCall K old s new) → SameEnd c.row c.back
  out_same old s new c = record { end_is = c.at.end_is; out_is = c.keeps.name_is; in_is = ap K.in_name c.input_is }

  pub in_same : (old : Table S O I) (s : PipeStep) (new : Table S O I) (c : InCall K old s new) → SameEnd c.row c.back
  in_same old s new c = record { end_is = c.at.end_is; out_is = ap K.out_name c.out_is; in_is = c.keeps.name_is }

  pub out_holds : (old : Table S O I) (s : PipeStep) (new : Table S O I) → OutCall K old s new → IsHeld K old → IsHeld K new
  out_holds old s new c held =
      let same = out_same old s new c in
      let first = held.each c.place c.row c.at.here in
      record {
        each = λ k r is. ⊎_elim
            (λ (h : (k ≡ c.place) × (c.back ≡ r)). subst (λ (x : EndRow O I). IsHeldAt K new.pipes x) h.1 (record {
              out = subst (IsThere K new.pipes) (sym c.keeps.name_is) (c.keeps.there (K.out_name c.row.out) first.out);
              input = subst (IsThere K new.pipes) (sym same.in_is) (c.keeps.there (K.in_name c.row.input) first.input);
              unsealed = λ w. c.unsealed (sym c.at.writable_is ∙ w);
            }))
            (λ (h : (k ≢ c.place) × (row_at old.rows k ≡ Some r)).
            let each = held.each k r h.1 in
            let two = held.two k c.place r c.row h.0 h.1 c.at.here in
            record {
              out = c.keeps.there (K.out_name r.out) each.out;
              input = c.keeps.there (K.in_name r.input) each.input;
              unsealed = λ w. ap (λ (x : Writing). x.sealed) (c.keeps.outs r.out each.out two.outs) ∙ each.unsealed w;
            })
            (row_after old new c.place c.row c.back c.at k r is);
        two = all_two old new c.place c.row c.back c.at same held;
      }

  pub in_holds : (old : Table S O I) (s : PipeStep) (new : Table S O I) → InCall K old s new → IsHeld K old → IsHeld K new
  in_holds old s new c held =
      let same = in_same old s new c in
      let first = held.each c.place c.row c.at.here in
      record {
        each = λ k r is. ⊎_elim
            (λ (h : (k ≡ c.place) × (c.back ≡ r)). subst (λ (x : EndRow O I). IsHeldAt K new.pipes x) h.1 (record {
              out = subst (IsThere K new.pipes) (sym same.out_is) (c.keeps.there (K.out_name c.row.out) first.out);
              input = subst (IsThere K new.pipes) (sym c.keeps.name_is) (c.keeps.there (K.in_name c.row.input) first.input);
              unsealed = λ w. ap (λ (x : O). (K.writing new.pipes x).sealed) c.out_is ∙ ap (λ (x : Writing). x.sealed) (c.keeps.outs c.row.out first.out) ∙ first.unsealed (sym c.at.writable_is ∙ w);
            }))
            (λ (h : (k ≢ c.place) × (row_at old.rows k ≡ Some r)).
            let each = held.each k r h.1 in
            record {
              out = c.keeps.there (K.out_name r.out) each.out;
              input = c.keeps.there (K.in_name r.input) each.input;
              unsealed = λ w. ap (λ (x : Writing). x.sealed) (c.keeps.outs r.out each.out) ∙ each.unsealed w;
            })
            (row_after old new c.place c.row c.back c.at k r is);
        two = all_two old new c.place c.row c.back c.at same held;
      }

  pub one_holds : (old : Table S O I) (s : PipeStep) (new : Table S O I) → DoesOne K old s new → IsHeld K old → IsHeld K new
  one_holds old s new one held = ⊎_elim
      (λ (c : OutCall K old s new). out_holds old s new c held)
      (λ (c : InCall K old s new). in_holds old s new c held)
      one

  -- each row is there after a call, as the same end
  pub row_stays : (old : Table S O I) (s : PipeStep) (new : Table S O I) → DoesOne K old s new → (k : ℕ) (r : EndRow O I) → row_at old.rows k ≡ Some r
      → (q : EndRow O I) × (row_at new.rows k ≡ Some q)
  row_stays old s new one k r is = ⊎_elim
      (λ (c : OutCall K old s new). go c.place c.row c.back c.at)
      (λ (c : InCall K old s new). go c.place c.row c.back c.at)
      one
    where
      go : (place : ℕ) (row back : EndRow O I) → CallsAt K old new place row back → (q : EndRow O I) × (row_at new.rows k ≡ Some q)
      go place row back at = ⊎_elim
          (λ (e : k ≡ place). (back, ap (λ (j : ℕ). row_at new.rows j) e ∙ row_before old new place row back at))
          (λ (ne : k ≢ place). (r, row_else old new place row back at k ne ∙ is))
          (cases_eq k place)

  pub rows_stay : (old : Table S O I) (steps : List PipeStep) (new : Table S O I) → DoesAll K old steps new → (k : ℕ) (r : EndRow O I) → row_at old.rows k ≡ Some r
      → (q : EndRow O I) × (row_at new.rows k ≡ Some q)
  rows_stay old [] new all k r is = (r, ap (λ (t : Table S O I). row_at t.rows k) all ∙ is)
  rows_stay old (s ∷ ss) new all k r is =
      let q = row_stays old s all.0 all.1 k r is in
      rows_stay all.0 ss new all.2 k q.0 q.1

  -- ends that are held stay held through calls one after another
  pub all_hold : (old : Table S O I) (steps : List PipeStep) (new : Table S O I) → DoesAll K old steps new → IsHeld K old → IsHeld K new
  all_hold old [] new all held = subst (IsHeld K) (sym all) held
  all_hold old (s ∷ ss) new all held = all_hold all.0 ss new all.2 (one_holds old s all.0 all.1 held)

  -- each place at which an end is has one still
  pub all_rows : (old : Table S O I) (steps : List PipeStep) (new : Table S O I) (places : List ℕ) → DoesAll K old steps new → All (IsRow old.rows) places → All (IsRow new.rows) places
  all_rows old steps new places all rows = λ k d within.
      let row = rows k d within in
      rows_stay old steps new all _ row.0 row.1
