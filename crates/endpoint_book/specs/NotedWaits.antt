-- That where an object waits is noted under it (own choice).
use Rattle.std.specs.Prelude.{◌≡◌, ℕ, Bool, true, false, not, ◌&&◌, List, filter}
use Rattle.std.specs.List.{list_any}
use Rattle.std.specs.Str.{bytes_eq}
use Rattle.std.specs.declared.vec.Vec.{Vec}
use Rattle.zq_base.specs.declared.endpoint.Endpoint.{Endpoint}
use Rattle.zq_base.specs.declared.ids.ObjId.{ObjId}
use Rattle.spec_control.specs.declared.book.Binding.{Binding}
use Rattle.spec_control.specs.declared.book.Waiting.{Waiting}
use Rattle.spec_control.specs.EndpointBook.{is_waiter, is_fulfilled}
use Rattle.endpoint_book.specs.Owned.{KeySets, keys_under}
use Rattle.endpoint_book.specs.WaitLists.{Lists, list_at, stands_at}

-- the connect is the object's, and is searched for by these octets
abbrev pub is_waiter_at : ObjId → List ℕ → Waiting → Bool
is_waiter_at object line wait = is_waiter object wait && stands_at line wait

module _ {A : Type 0} where
  -- a key is these octets
  abbrev pub is_line : List ℕ → Vec ℕ A → Bool
  is_line line key = bytes_eq line key.items

  -- two keys are the same octets
  abbrev pub same_line : Vec ℕ A → Vec ℕ A → Bool
  same_line key other = bytes_eq key.items other.items

  -- where the object waits is among the keys
  abbrev pub IsAmongLines : ObjId → List (Vec ℕ A) → Lists → Type 0
  IsAmongLines object keys lists = (line : List ℕ) → list_any (is_waiter object) (list_at lists line) ≡ true → list_any (is_line line) keys ≡ true

  -- where each object waits is noted under it
  abbrev pub AreWaitsNoted : {S T : Type 0} → List Waiting → KeySets (Vec ℕ A) S T → Type 0
  AreWaitsNoted waits sets = (o : ObjId) (line : List ℕ) → list_any (is_waiter_at o line) waits ≡ true → list_any (is_line line) (keys_under sets o) ≡ true

  -- what is noted where an object waits stays so
  abbrev pub KeepsNoted : {S T : Type 0} → Lists → KeySets (Vec ℕ A) S T → KeySets (Vec ℕ A) S T → Type 0
  KeepsNoted lists old new = (o : ObjId) (line : List ℕ) → list_any (is_waiter o) (list_at lists line) ≡ true
      → list_any (is_line line) (keys_under new o) ≡ list_any (is_line line) (keys_under old o)

  -- what is noted of other octets stays so
  abbrev pub KeepsElsewhere : {S T : Type 0} → List ℕ → KeySets (Vec ℕ A) S T → KeySets (Vec ℕ A) S T → Type 0
  KeepsElsewhere line old new = (o : ObjId) (l : List ℕ) → bytes_eq line l ≡ false
      → list_any (is_line l) (keys_under new o) ≡ list_any (is_line l) (keys_under old o)

  -- what is noted where an object waits that a bind doesn't fulfil stays so
  abbrev pub KeepsUnfulfilled : {S T : Type 0} → Endpoint → Binding → Lists → KeySets (Vec ℕ A) S T → KeySets (Vec ℕ A) S T → Type 0
  KeepsUnfulfilled at binding lists old new = (o : ObjId) (line : List ℕ)
      → list_any (is_waiter o) (filter (λ w. not (is_fulfilled at binding w)) (list_at lists line)) ≡ true
      → list_any (is_line line) (keys_under new o) ≡ list_any (is_line line) (keys_under old o)
