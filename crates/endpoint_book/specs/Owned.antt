-- What is noted under each object: the keys of what is its own (own choice).
use Rattle.std.specs.Prelude.{◌≡◌, ℕ, Bool, true, cond, nat_eq, List, []}
use Rattle.std.specs.HashMap.{HashMap}
use Rattle.std.specs.HashSet.{HashSet}
use Rattle.std.specs.Map.{lookup, IsKeyTest, AreApart}
use Rattle.std.specs.List.{list_any}
use Rattle.std.specs.Option.{option_map_or}
use Rattle.zq_base.specs.declared.ids.ObjId.{ObjId}
use Rattle.spec_control.specs.EndpointBook.{is_object}

-- sets of keys, each by the number of its object
abbrev pub KeySets : Type 0 → Type 0 → Type 0 → Type 0
KeySets K S T = HashMap ℕ (HashSet K S) T

module _ {K S T : Type 0} where
  -- the keys that are noted under an object
  abbrev pub keys_under : KeySets K S T → ObjId → List K
  keys_under sets object = option_map_or (λ s. s.keys) (lookup (nat_eq object.0) sets.entries) []

  -- the keys under one object are these, and under the others what they were
  abbrev pub PutsUnder : ObjId → List K → KeySets K S T → KeySets K S T → Type 0
  PutsUnder object keys old new = (o : ObjId) → keys_under new o ≡ cond (is_object object o) keys (keys_under old o)

  -- the same keys are under each object
  abbrev pub SameUnder : KeySets K S T → KeySets K S T → Type 0
  SameUnder old new = (o : ObjId) → keys_under new o ≡ keys_under old o

  -- under each object are the keys of before, but under this one perhaps none that passes the test
  abbrev pub KeepsUnder : (K → K → Bool) → ObjId → (K → Bool) → KeySets K S T → KeySets K S T → Type 0
  KeepsUnder eq object test old new = (o : ObjId) (other : K → Bool) → IsKeyTest eq other → (is_object object o ≡ true → AreApart test other)
      → list_any other (keys_under new o) ≡ list_any other (keys_under old o)
