-- How the connects that wait are kept: a list at each key, and what happened to them, one after the other (own choice).
use Rattle.std.specs.Prelude.{◌≡◌, ℕ, Bool, cond, not, List, [], ◌∷◌, ◌++◌, map, filter}
use Rattle.std.specs.Map.{lookup}
use Rattle.std.specs.Option.{unwrap_or}
use Rattle.std.specs.Str.{bytes_eq}
use Rattle.std.specs.declared.vec.Vec.{Vec}
use Rattle.zq_base.specs.declared.endpoint.Endpoint.{Endpoint}
use Rattle.zq_base.specs.declared.endpoint.Endpoint.TheVariants.{Inproc, Tcp}
use Rattle.zq_base.specs.declared.ids.ObjId.{ObjId}
use Rattle.spec_control.specs.declared.book.Waiting.{Waiting}
use Rattle.spec_control.specs.EndpointBook.{is_fulfilled, is_connect_of, is_waiter, without_first}
use Rattle.endpoint_book.specs.Lines.{address_line}
use Rattle.endpoint_book.specs.declared.change.Change.{Change}
use Rattle.endpoint_book.specs.declared.change.Change.TheVariants.{Waits, Bound, Back, Dropped}

-- the octets that an endpoint is searched for by: its name, or those of its address
abbrev pub line_of : Endpoint → List ℕ
line_of (Inproc name) = name
line_of (Tcp address) = address_line address

-- the connect is searched for by these octets
abbrev pub stands_at : List ℕ → Waiting → Bool
stands_at line wait = bytes_eq line (line_of wait.at)

-- what waits at each key
abbrev pub Lists : Type 0
Lists = List (List ℕ × List Waiting)

module _ {A B : Type 0} where
  -- each key's octets, with what waits there
  abbrev pub lists_of : List (Vec ℕ A × Vec Waiting B) → Lists
  lists_of entries = map (λ e. (e.0.items, e.1.items)) entries

-- what waits at a key
abbrev pub list_at : Lists → List ℕ → List Waiting
list_at lists line = unwrap_or (lookup (bytes_eq line) lists) []

-- what waits at one key is this, and at the others what it was
abbrev pub Sets : List ℕ → List Waiting → Lists → Lists → Type 0
Sets line waits old new = (l : List ℕ) → list_at new l ≡ cond (bytes_eq line l) waits (list_at old l)

-- the same waits at each key
abbrev pub AreAlike : Lists → Lists → Type 0
AreAlike old new = (l : List ℕ) → list_at new l ≡ list_at old l

-- at each key stand those that stood there and are not the object's
abbrev pub KeepOthers : ObjId → Lists → Lists → Type 0
KeepOthers object old new = (l : List ℕ) → list_at new l ≡ filter (λ w. not (is_waiter object w)) (list_at old l)

-- at each key stand those that are searched for by it
abbrev pub AreLists : List Waiting → Lists → Type 0
AreLists waits lists = (l : List ℕ) → list_at lists l ≡ filter (stands_at l) waits

-- what waits after a change
abbrev pub after_change : Endpoint × Change → List Waiting → List Waiting
after_change (at, Waits waiter kind) waits = waits ++ record { at = at; waiter = waiter; kind = kind } ∷ []
after_change (at, Bound binding) waits = filter (λ w. not (is_fulfilled at binding w)) waits
after_change (at, Back waiter) waits = without_first (is_connect_of waiter at) waits
after_change (at, Dropped object) waits = filter (λ w. not (is_waiter object w)) waits

-- what waits after these changes of what waited
abbrev pub after_all : List Waiting → List (Endpoint × Change) → List Waiting
after_all waits [] = waits
after_all waits (c ∷ cs) = after_all (after_change c waits) cs
