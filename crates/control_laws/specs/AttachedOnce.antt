-- The ends in the order of their attachment (own choice).
use Rattle.std.specs.Prelude.{◌≡◌, ℕ, false, List, [], ◌∷◌}
use Rattle.std.specs.List.{list_any}
use Rattle.zq_base.specs.declared.ids.EndId.{EndId}
use Rattle.spec_control.specs.declared.entry.Item.{Item}
use Rattle.spec_control.specs.Control.{begun, is_end}
use Rattle.spec_control.specs.ControlRun.{after_all, IsControlRun}

-- no end stands twice among these
abbrev pub AreOnce : List EndId → Type 0
AreOnce [] = Unit {0}
AreOnce (e ∷ es) = (list_any (is_end e) es ≡ false) × AreOnce es

-- in each control run, no end is attached twice
abbrev pub AttachedOnce : (N S : Type 0) → Type 0
AttachedOnce N S = (workers : ℕ) (items : List (Item N S)) → IsControlRun (begun workers) items → AreOnce (after_all items (begun workers)).attached
