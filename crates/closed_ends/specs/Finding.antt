-- Where the ends of closed sockets stand (own choice).
use Rattle.std.specs.Prelude.{◌≡◌, ◌≢◌, ◌<◌, ◌++◌, ℕ, Bool, true, false, List, [], ◌∷◌, Some, None, All, is_some, length, position, nat_eq, vec_len, vec_capacity}
use Rattle.std.specs.List.{AllPairs}
use Rattle.indexmap.specs.IndexMap.{get, spare}
use Rattle.zq_base.specs.declared.ids.EndId.{EndId}
use Rattle.zq_base.specs.declared.attached.Attached.TheVariants.{Yes}
use Rattle.spec_control.specs.declared.end.EndState.TheVariants.{Active}
use Rattle.desk.specs.declared.given.Given.{Given}
use Rattle.desk.specs.declared.halves.Halves.{Halves}
use Rattle.desk.specs.Holding.{joining_with}
use Rattle.end_table.specs.declared.table.Place.{Place}
use Rattle.sock_core.specs.Standing.{standing_joins}
pub use Rattle.closed_ends.specs.Placing.{given_joined, place_given}
use Rattle.closed_ends.specs.declared.sockets.ClosedSocket.{ClosedSocket}
use Rattle.closed_ends.specs.declared.sockets.ClosedSockets.{ClosedSockets}
use Rattle.closed_ends.specs.Has.{is_socket, is_of}

-- the first of these that passes stands at this place
pub record IsFirst {X : Type 0} (test : X → Bool) (xs : List X) (place : ℕ) : Type 0 where
  pub before : List X
  pub one : X
  pub behind : List X
  pub are : xs ≡ before ++ one ∷ behind
  pub at : length before ≡ place
  pub others : All (λ x. test x ≡ false) before
  pub is : test one ≡ true

module _ {N O I : Type 0} where
  -- each closed socket is found at its place by its number
  abbrev pub AreIndexed : ClosedSockets N O I → Type 0
  AreIndexed c = (n : ℕ) → get nat_eq c.places n ≡ position (is_socket n) c.sockets.items

  -- no two of these are one end
  abbrev pub AreTwoByTwo : List (Given N O I) → Type 0
  AreTwoByTwo gs = AllPairs (λ x y. x.end ≢ y.end) gs

  -- there is room for one closed socket more
  pub record HasRoom (c : ClosedSockets N O I) : Type 0 where
    pub sockets : vec_len c.sockets < vec_capacity c.sockets
    pub places : 0 < spare c.places

  -- the sockets and their ends are as they were, and nothing was told
  pub record KeepsEnds (old new : ClosedSockets N O I) : Type 0 where
    pub sockets : new.sockets.items ≡ old.sockets.items
    pub came : new.came.items ≡ old.came.items
    pub settled : new.settled.items ≡ old.settled.items
    pub turns : new.turns.items ≡ old.turns.items
    pub sealed : new.sealed.items ≡ old.sealed.items
    pub joins : new.joins.items ≡ old.joins.items
    pub heard : new.heard.items ≡ old.heard.items

  -- the closed socket of this number stands at the one place, and this end of it at the other among its ends
  pub record FindsEnd (number : ℕ) (e : EndId) (ss : List (ClosedSocket N O I)) (socket place : ℕ) : Type 0 where
    pub its : IsFirst (is_socket number) ss socket
    pub here : IsFirst (is_of e) its.one.ends.items place

  -- the closed socket of this number, which stands at this place, has these ends more behind those that it had
  pub record JoinsAt (number socket : ℕ) (more : List (Given N O I)) (old new : List (ClosedSocket N O I)) : Type 0 where
    pub its : IsFirst (is_socket number) old socket
    pub now : ClosedSocket N O I
    pub number_is : now.number ≡ its.one.number
    pub ends_are : now.ends.items ≡ its.one.ends.items ++ more
    pub are : new ≡ its.before ++ now ∷ its.behind

  -- nothing else was noted of the sockets and their ends
  pub record KeepsNotes (old new : ClosedSockets N O I) : Type 0 where
    pub places : new.places ≡ old.places
    pub settled : new.settled.items ≡ old.settled.items
    pub turns : new.turns.items ≡ old.turns.items
    pub sealed : new.sealed.items ≡ old.sealed.items
    pub heard : new.heard.items ≡ old.heard.items

  -- no end joined; the socket has room for more, perhaps
  pub record AddsNone (number socket : ℕ) (old new : ClosedSockets N O I) : Type 0 where
    pub sockets : JoinsAt number socket [] old.sockets.items new.sockets.items
    pub came : new.came.items ≡ old.came.items
    pub joins : new.joins.items ≡ old.joins.items

  -- an end as it comes, as that is noted
  abbrev pub came_given : (in_name : I → N) → Given N O I → Place N I × Unit {0}
  came_given in_name g = (place_given in_name g, tt)

  -- an end joined with these halves, whose peer has this identity
  pub record AddsOne (out_name : O → N) (in_name : I → N) (number socket : ℕ) (e : EndId) (peer : List ℕ) (h : Halves O I) (old new : ClosedSockets N O I) : Type 0 where
    pub sockets : JoinsAt number socket (given_joined out_name e h ∷ []) old.sockets.items new.sockets.items
    pub came : new.came.items ≡ old.came.items ++ came_given in_name (given_joined out_name e h) ∷ []
    pub joins : standing_joins new.joins.items ≡ standing_joins old.joins.items ++ joining_with out_name in_name e peer h Yes ∷ []
