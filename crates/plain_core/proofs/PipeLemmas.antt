-- The rows of pipes, by what is noted of them.
use Rattle.std.specs.Prelude.{◌≡◌, ◌≤◌, ◌<◌, ◌+◌, ◌-◌, ℕ, zero, suc, Bool, true, false, List, [], ◌∷◌, ◌++◌, Option, Some, None, All, if◌then◌else◌, drop, find, length, take, refl}
use Rattle.std.specs.Option.{option_map}
use Rattle.std.proofs.Common.{arith, sym, ap, ◌∙◌, subst, length-drop}
use Rattle.std.proofs.lemmas.List.Elements.{All-head, All-tail}
use Rattle.zq_base.specs.declared.ids.EndId.{EndId}
use Rattle.zq_base.specs.declared.ids.Settled.{Settled}
use Rattle.zq_base.specs.Ends.{PipeId, other_end}
use Rattle.spec_control.specs.Rows.{PairRow}
use Rattle.spec_control.specs.Control.{Control, Settlement, is_end, end_of}
use Rattle.spec_run.specs.declared.journal.SettledRow.{SettledRow}
use Rattle.spec_run.specs.Fate.{is_heard_at}
use Rattle.spec_run.specs.OwnedRun.{settlement_of}
use Rattle.spec_run.specs.Journal.{rows_by}
use Rattle.control_laws.proofs.AskLemmas.{same_end}
use Rattle.core_laws.specs.Drops.{row_dropped}
use Rattle.socket_laws.specs.Settling.{HasItsReason}
use Rattle.core_laws.specs.Table.{drops_in}
use Rattle.plain_core.specs.Settled.{row_in}

-- ---- one row
record Found (e : EndId) (c : Control) (s : Settlement) : Type 0 where
  end : s.end ≡ e
  reason : s.reason ≡ c.reasons e

found_so : (e : EndId) (c : Control) (ss : List Settlement) (s : Settlement) → All (HasItsReason c) ss → find (λ (x : Settlement). is_end e x.end) ss ≡ Some s → Found e c s
found_so e c [] s all h = absurd (none_or_some h)
  where
    none_or_some : None ≡ Some s → ⊥
    none_or_some h = grind arith
found_so e c (x ∷ ss) s all h = by (is_end e x.end) refl h (λ found. found_so e c ss s (All-tail (HasItsReason c) x ss all) found)
  where
    or_else : Option Settlement → Settlement
    or_else None = x
    or_else (Some z) = z

    by : (b : Bool) → is_end e x.end ≡ b → (if b then Some x else find (λ (y : Settlement). is_end e y.end) ss) ≡ Some s → (find (λ (y : Settlement). is_end e y.end) ss ≡ Some s → Found e c s) → Found e c s
    by true is found rest =
        let at : x.end ≡ e = sym (same_end e x.end is) in
        subst (Found e c) (ap or_else found) (record { end = at; reason = All-head (HasItsReason c) x ss all ∙ ap c.reasons at })
    by false is found rest = rest found

pub row_some : (c : Control) (drops : List ℕ) (p : PipeId) (counts : Settled) (row : SettledRow) → All (HasItsReason c) c.settlements
    → Some counts ≡ option_map (λ (s : Settlement). s.counts) (settlement_of c p)
    → ((s : Settlement) → s.counts ≡ counts → s.reason ≡ c.reasons (other_end p) → row ≡ row_dropped (is_heard_at c p) p (drops_in drops p) s) → Some row ≡ row_in c drops p
row_some c drops p counts row all h is = by (settlement_of c p) refl h
  where
    by : (o : Option Settlement) → settlement_of c p ≡ o → Some counts ≡ option_map (λ (s : Settlement). s.counts) o → Some row ≡ option_map (λ (s : Settlement). row_dropped (is_heard_at c p) p (drops_in drops p) s) o
    by None at h = absurd (none_or_some h)
      where
        none_or_some : Some counts ≡ None → ⊥
        none_or_some h = grind arith
    by (Some s) at h = ap Some (is s (sym (some_is counts s.counts h)) (found_so (other_end p) c c.settlements s all at).reason)
      where
        some_is : (x y : Settled) → Some x ≡ Some y → x ≡ y
        some_is x y h = ap (λ (o : Option Settled). or_else o) h
          where
            or_else : Option Settled → Settled
            or_else None = x
            or_else (Some z) = z

-- ---- all rows
rows_next : (row : PipeId → Option SettledRow) (n : ℕ) (ps : List PairRow) (k : ℕ) → k < length ps
    → rows_by row n (take (suc k) ps) ≡ rows_by row n (take k ps) ++ row (end_of (n + k) true) ∷ row (end_of (n + k) false) ∷ []
rows_next row n [] k lt = absurd (omega (arith, lt))
rows_next row n (p ∷ ps) zero lt = let same : n ≡ n + 0 = omega arith in ap (λ (i : ℕ). row (end_of i true) ∷ row (end_of i false) ∷ []) same
rows_next row n (p ∷ ps) (suc k) lt =
    let same : (n + 1) + k ≡ n + suc k = omega arith in
    ap (λ (xs : List (Option SettledRow)). row (end_of n true) ∷ row (end_of n false) ∷ xs)
    (rows_next row (n + 1) ps k (omega (arith, lt)) ∙ ap (λ (i : ℕ). rows_by row (n + 1) (take k ps) ++ row (end_of i true) ∷ row (end_of i false) ∷ []) same)

pub rows_more : (row : PipeId → Option SettledRow) (n : ℕ) (ps : List PairRow) (k : ℕ) → k < length ps
    → rows_by row n (take (k + 1) ps) ≡ rows_by row n (take k ps) ++ row (end_of (n + k) true) ∷ row (end_of (n + k) false) ∷ []
rows_more row n ps k lt = let same : k + 1 ≡ suc k = omega arith in ap (λ (i : ℕ). rows_by row n (take i ps)) same ∙ rows_next row n ps k lt

-- a pair's rows stand behind those of the pairs before it
pub pair_rows : (row : PipeId → Option SettledRow) (ps : List PairRow) (n : ℕ) (rows now : List (Option SettledRow)) → 1 ≤ n → n < length ps
    → rows ≡ rows_by row 1 (take (n - 1) (drop 1 ps)) → now ≡ rows ++ row (end_of n true) ∷ row (end_of n false) ∷ [] → now ≡ rows_by row 1 (take (n + 1 - 1) (drop 1 ps))
pair_rows row ps n rows now first lt before more =
    let rest : List PairRow = drop 1 ps in
    let many = length-drop 1 ps in
    let few : n - 1 < length rest = omega (arith, first, lt, many) in
    let at : n ≡ 1 + (n - 1) = omega (arith, first) in
    let next : (n - 1) + 1 ≡ n + 1 - 1 = omega (arith, first) in
    more ∙ ap (λ (xs : List (Option SettledRow)). xs ++ row (end_of n true) ∷ row (end_of n false) ∷ []) before
    ∙ ap (λ (i : ℕ). rows_by row 1 (take (n - 1) rest) ++ row (end_of i true) ∷ row (end_of i false) ∷ []) at
    ∙ sym (rows_more row 1 rest (n - 1) few)
    ∙ ap (λ (i : ℕ). rows_by row 1 (take i rest)) next
