use Rattle.std.proofs.Common.{◌≡◌, [], ◌∷◌, ◌++◌, ◌∙◌, ap, Some}
use Rattle.std.specs.Prelude.{Box}
use Rattle.std.specs.declared.alloc.Global.{Global}
use Rattle.end_table.specs.declared.row.EndRow.{EndRow}
use Rattle.end_table.specs.Rows.{Rows, row_at, IsRow}
use Rattle.zq_tests_leaves.proofs.rooms.one_row.Goals as goal

-- a row behind none is at the first place
first_row : {O I : Type 0} (none rows : Rows O I) (b : Box (EndRow O I) Global) → none ≡ [] → rows ≡ none ++ Some b ∷ [] → IsRow rows 0
first_row {O} {I} none rows b empty are = (b.value, ap (λ (l : Rows O I). row_at l 0) (are ∙ ap (λ (l : Rows O I). l ++ Some b ∷ []) empty))

pub returns-clause-there : goal.returns-clause-there
returns-clause-there g c = first_row c.in_ok-rows.rows.items c.push_reserved.new.self.items c.in-Ok.row c.in_ok-rows.ensures.items c.push_reserved.ensures.items
