-- What a caller's own items say is so in the one order (own choice).
use Rattle.std.specs.Prelude.{◌≡◌, ◌≢◌, ℕ, List, [], Some, All}
use Rattle.zq_base.specs.Ends.{other_end}
use Rattle.spec_control.specs.declared.entry.Item.{Item}
use Rattle.spec_control.specs.Control.{Control}
use Rattle.spec_control.specs.Names.{name_of, AreNamed}
use Rattle.spec_control.specs.Held.{Held, ends_after, items_by}
use Rattle.spec_control.specs.Has.{has_after, AreBy}

-- an end's two pipes have these names in the order
pub record HasNames {N S : Type 0} (items : List (Item N S)) (h : Held N) : Type 0 where
  pub written : name_of items h.end ≡ Some h.written
  pub read : name_of items (other_end h.end) ≡ Some h.read

-- the names that a caller reads off its items are those that the pipes were given at their making
abbrev pub HeldEndsAreNamed : (N S : Type 0) → Type 0
HeldEndsAreNamed N S = (items : List (Item N S)) → AreNamed [] items → (i : ℕ) → All (HasNames items) (ends_after i items)

-- what the own items of the caller that has an object say: that it has it, and which ends it holds for it
pub record OwnIsWhole {N S : Type 0} (items : List (Item N S)) (i k : ℕ) : Type 0 where
  pub has : has_after i (items_by k items) ≡ Some k
  pub ends : ends_after i (items_by k items) ≡ ends_after i items

-- in an order whose entries are by callers that may make them, they say it as the whole order does
abbrev pub OwnItemsAreWhole : (N S : Type 0) → Type 0
OwnItemsAreWhole N S = (c : Control) (items : List (Item N S)) → AreBy [] c items → (i k : ℕ) → i ≢ 0 →
    has_after i items ≡ Some k → OwnIsWhole items i k
