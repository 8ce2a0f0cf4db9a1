-- Which objects a journal lists as ended and as living (zmq_ctx_term(3); own choice, after libzmq's `own_t`).
use Rattle.std.specs.Prelude.{◌≡◌, ◌<◌, ◌==◌, ◌+◌, ℕ, Bool, true, List, [], ◌∷◌, ◌++◌, Some, cond, count_by, flat_map, if◌then◌else◌, length, slice_get, codes}
use Rattle.std.specs.List.{list_all, list_any, AllByRecursion}
use Rattle.spec_control.specs.Stage.{has_ended}
use Rattle.spec_control.specs.Rows.{obj}
use Rattle.spec_control.specs.Control.{Control, id, next_object}
use Rattle.spec_run.specs.declared.journal.ObjectLine.{ObjectLine}
use Rattle.spec_run.specs.declared.journal.ObjectRow.{ObjectRow}
use Rattle.spec_run.specs.declared.journal.Journal.{Journal}
use Rattle.spec_run.specs.JournalText.{live_text, over_text}

-- the line is that of the object of this number
abbrev pub is_line_of : ℕ → ObjectLine → Bool
is_line_of i line = i == line.object.0

-- what is shown of an object is what it is, and whether it has ended
pub record ShowsObject (c : Control) (i : ℕ) (o : ObjectRow) : Type 0 where
  pub kind : o.kind ≡ (obj c.rows i).kind
  pub ended : o.ended ≡ has_ended (obj c.rows i).stage

-- the objects of a journal where the control plane is c at the end
pub record ListsObjects (c : Control) (j : Journal) : Type 0 where
  -- each object that was made is shown by its number
  pub made : length j.objects ≡ next_object c
  pub shown : (i : ℕ) (o : ObjectRow) → slice_get j.objects i ≡ Some o → ShowsObject c i o
  -- it is listed as ended once where it has ended, and else not
  pub ended : (i : ℕ) (o : ObjectRow) → slice_get j.objects i ≡ Some o → count_by (is_line_of i) j.ended ≡ cond o.ended 1 0
  -- each line tells what its object is
  pub lines : AllByRecursion (λ (line : ObjectLine). line.kind ≡ (obj c.rows line.object.0).kind) j.ended
  -- each object that another owns is listed before it
  pub owned_first : (before after : List ObjectLine) (line : ObjectLine) → j.ended ≡ before ++ line ∷ after → (i : ℕ) → (obj c.rows i).owner ≡ Some line.object.0 →
      list_any (is_line_of i) before ≡ true

-- nothing is left of the objects of a journal: each that was made is listed as ended once, and none as living
pub record ListsAllEnded (j : Journal) : Type 0 where
  pub each : (i : ℕ) → i < length j.objects → count_by (is_line_of i) j.ended ≡ 1
  pub none_live : list_all (λ o. o.ended) j.objects ≡ true

-- the objects that have not ended, of those from this number on
abbrev pub living_from : ℕ → List ObjectRow → List ObjectLine
living_from n [] = []
living_from n (o ∷ os) = if o.ended then living_from (n + 1) os else record { object = id n; kind = o.kind } ∷ living_from (n + 1) os

-- the objects of a journal that have not ended, by number
abbrev pub living : Journal → List ObjectLine
living j = living_from 0 j.objects

-- The text of a journal ends by what lives: where it is not done, a line for each object that has not ended, by number, and for no other.
pub record ListsTheLiving (j : Journal) : Type 0 where
  pub unfinished : over_text j.done j.objects ≡ (if j.done then codes "done\n" else flat_map live_text (living j) ++ codes "unfinished\n")
  -- an object is among them once where it is shown as not ended, and else not
  pub each : (i : ℕ) (o : ObjectRow) → slice_get j.objects i ≡ Some o → count_by (is_line_of i) (living j) ≡ cond o.ended 0 1
  pub only : (i : ℕ) → list_any (is_line_of i) (living j) ≡ true → i < length j.objects
