-- The seats of an actor: what each of its socket lines made, in their order, and which of these sockets are open (own choice).
use Rattle.std.specs.Prelude.{◌≡◌, ◌==◌, ◌+◌, ℕ, Bool, true, false, List, [], ◌∷◌, Option, Some, None, map, slice_get}
use Rattle.std.specs.List.{list_any, AllByRecursion}
use Rattle.spec_run.specs.OpenSocket.{OpenSock}
use Rattle.spec_run.specs.Standing.{Sockets}
use Rattle.zq_world.specs.declared.seats.Seat.{Seat}
use Rattle.zq_world.specs.declared.seats.Seat.TheVariants as seat

module _ {O : Type 0} where
  -- the number that the name of a line stands for
  abbrev pub name_of : Seat O → Option ℕ
  name_of seat.Refused = None
  name_of (seat.Closed object) = Some object.0
  name_of (seat.Open object socket) = Some object.0

  abbrev pub is_open : Seat O → Bool
  is_open seat.Refused = false
  is_open (seat.Closed object) = false
  is_open (seat.Open object socket) = true

  -- how many seats come before the first that is open
  abbrev pub shut_before : List (Seat O) → ℕ
  shut_before [] = 0
  shut_before (seat.Refused ∷ seats) = shut_before seats + 1
  shut_before (seat.Closed object ∷ seats) = shut_before seats + 1
  shut_before (seat.Open object socket ∷ seats) = 0

  abbrev pub is_open_in : Option (Seat O) → Bool
  is_open_in None = false
  is_open_in (Some seat) = is_open seat

  -- the seat of a place is open
  abbrev pub is_open_at : List (Seat O) → ℕ → Bool
  is_open_at seats place = is_open_in (slice_get seats place)

  -- a seat is open
  abbrev pub has_open : List (Seat O) → Bool
  has_open seats = list_any is_open seats

-- a name stands for this object
abbrev pub stands_for : ℕ → Option ℕ → Bool
stands_for object None = false
stands_for object (Some other) = object == other

-- no further name stands for the object of this one
abbrev pub IsAlone : Option ℕ → List (Option ℕ) → Type 0
IsAlone None names = Unit {0}
IsAlone (Some object) names = list_any (stands_for object) names ≡ false

-- no two names stand for one object
abbrev pub AreApart : List (Option ℕ) → Type 0
AreApart [] = Unit {0}
AreApart (name ∷ names) = IsAlone name names × AreApart names

module _ {O : Type 0} (as_open : O → OpenSock) where
  -- the open sockets, in the order of their making
  abbrev pub socks_in : List (Seat O) → List OpenSock
  socks_in [] = []
  socks_in (seat.Refused ∷ seats) = socks_in seats
  socks_in (seat.Closed object ∷ seats) = socks_in seats
  socks_in (seat.Open object socket ∷ seats) = as_open socket ∷ socks_in seats

  abbrev pub sockets_of : List (Seat O) → Sockets
  sockets_of seats = record { names = map name_of seats; socks = socks_in seats }

module _ {W O : Type 0} (as_open : O → OpenSock) (agrees : W → ℕ → O → Type 0) (was_made : W → ℕ → Type 0) where
  -- a socket that was made had its number; an open one agrees
  abbrev pub SeatAgrees : W → (caller : ℕ) → Seat O → Type 0
  SeatAgrees way caller seat.Refused = Unit {0}
  SeatAgrees way caller (seat.Closed object) = was_made way object.0
  SeatAgrees way caller (seat.Open object socket) =
      was_made way object.0 × (agrees way caller socket × ((as_open socket).object ≡ object.0))

  -- a caller's seats agree with what was done, and no two have one object
  pub record AllAgree (way : W) (caller : ℕ) (seats : List (Seat O)) : Type 0 where
    pub agree : AllByRecursion (SeatAgrees way caller) seats
    pub apart : AreApart (map name_of seats)
