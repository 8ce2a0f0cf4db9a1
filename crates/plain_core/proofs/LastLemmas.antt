-- Objects that are walked over from the last on: each that is over is noted where it is met first.
use Rattle.std.specs.Prelude.{◌≡◌, ◌&&◌, Bool, true, false, not, List, [], ◌∷◌, ◌++◌, if◌then◌else◌, reverse, slice_index_or, refl}
use Rattle.std.specs.List.{list_any}
use Rattle.std.proofs.Common.{sym, ap}
use Rattle.std.proofs.lemmas.Bool.{ltb-true}
use Rattle.std.proofs.lemmas.List.{append-nil, reverse-append}
use Rattle.zq_base.specs.declared.ids.ObjId.{ObjId}
use Rattle.spec_control.specs.Control.{Control, next_object}
use Rattle.control_laws.proofs.ListLemmas.{left}
use Rattle.run_laws.specs.EndOrder.{is_numbered}
use Rattle.core_laws.specs.EndedRows.{is_over, last_of, one_if}
use Rattle.plain_core.specs.Ending.{AreMarked}

-- ---- the walk

pub record Walked (c : Control) (os : List ObjId) (marks : List Bool) (ended : List ObjId) : Type 0 where
  pub marks_are : AreMarked (next_object c) os marks
  pub ended_are : ended ≡ reverse (last_of (is_over c) os)

same_first : (c : Control) (os : List ObjId) (marks : List Bool) (o : ObjId) → AreMarked (next_object c) os marks
    → (is_over c o.0 && not (list_any (is_numbered o.0) os)) ≡ (is_over c o.0 && not (slice_index_or marks o.0 false))
same_first c os marks o are = by (is_over c o.0) refl
  where
    by : (b : Bool) → is_over c o.0 ≡ b → (b && not (list_any (is_numbered o.0) os)) ≡ (b && not (slice_index_or marks o.0 false))
    by true h = ap not (sym (are.each o.0 (ltb-true o.0 (next_object c) (left _ _ h))))
    by false h = refl

turned : (b : Bool) (o : ObjId) (rest : List ObjId) → reverse (if b then o ∷ rest else rest) ≡ reverse rest ++ one_if b o
turned true o rest = reverse-append (o ∷ []) rest
turned false o rest = sym (append-nil (reverse rest))
