-- Who holds each key, and that what an object holds is noted under it (own choice).
use Rattle.std.specs.Prelude.{◌≡◌, Bool, true, cond, List, Option, None, Some}
use Rattle.std.specs.List.{list_any}
use Rattle.std.specs.Map.{lookup, IsKeyTest, KeepsOthers}
use Rattle.zq_base.specs.declared.ids.ObjId.{ObjId}
use Rattle.spec_control.specs.declared.book.Binding.{Binding}
use Rattle.spec_control.specs.EndpointBook.{is_object, is_held_by}
use Rattle.endpoint_book.specs.Owned.{KeySets, keys_under}

-- the keys with their holders
abbrev pub Holders : Type 0 → Type 0
Holders K = List (K × Binding)

-- the binding, unless it is the object's
abbrev pub of_others : ObjId → Option Binding → Option Binding
of_others object None = None
of_others object (Some binding) = cond (is_object binding.holder object) None (Some binding)

module _ {K : Type 0} (eq : K → K → Bool) where
  -- the key that passes the test has this holder, and the others have theirs
  abbrev pub PutsHolder : (K → Bool) → Option Binding → Holders K → Holders K → Type 0
  PutsHolder test holder old new = (lookup test new ≡ holder) × KeepsOthers eq test old new

  -- what the object holds is among the keys
  abbrev pub IsAmongKeys : ObjId → List K → Holders K → Type 0
  IsAmongKeys object keys held = (key : K → Bool) → IsKeyTest eq key → is_held_by object (lookup key held) ≡ true → list_any key keys ≡ true

  -- what each object holds is noted under it
  abbrev pub AreNoted : {S T : Type 0} → Holders K → KeySets K S T → Type 0
  AreNoted held sets = (o : ObjId) → IsAmongKeys o (keys_under sets o) held

  -- what the object holds is free, and the others hold theirs
  abbrev pub FreesAll : ObjId → Holders K → Holders K → Type 0
  FreesAll object old new = (key : K → Bool) → IsKeyTest eq key → lookup key new ≡ of_others object (lookup key old)

  -- the key is free if the object holds it, and the other keys have their holders
  abbrev pub FreesKey : K → ObjId → Holders K → Holders K → Type 0
  FreesKey key object old new = (other : K → Bool) → IsKeyTest eq other
      → lookup other new ≡ cond (other key) (of_others object (lookup other old)) (lookup other old)
