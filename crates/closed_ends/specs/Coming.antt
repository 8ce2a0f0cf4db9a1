-- How ends came to closed sockets in a stretch of calls (own choice, after libzmq's `reaper_t`).
use Rattle.std.specs.Prelude.{◌≡◌, ◌++◌, ℕ, true, false, List, [], ◌∷◌, All, flat_map, is_some, map}
use Rattle.std.specs.List.{AllByRecursion, Contains}
use Rattle.zq_base.specs.declared.ids.ObjId.{ObjId}
use Rattle.spec_control.specs.declared.entry.Joining.{Joining}
use Rattle.spec_control.specs.Control.{Control, owner_of}
use Rattle.msg_pipe.specs.Known.{Known}
use Rattle.desk.specs.declared.given.Given.{Given}
use Rattle.desk.specs.Holding.{held_given}
use Rattle.desk.specs.TakingOver.{AllTwo}
use Rattle.sock_core.specs.Standing.{standing_joins}
use Rattle.closed_ends.specs.declared.sockets.ClosedSockets.{ClosedSockets}
use Rattle.closed_ends.specs.Finding.{came_given}

-- an end joined a closed socket, or a closed socket came with its ends
pub data Way (N O I : Type 0) : Type 0 where
  CameAlone : Joining N → Given N O I → Way N O I
  CameClosed : ObjId → List (Given N O I) → Way N O I

module _ {N O I : Type 0} where
  abbrev pub ends_by : Way N O I → List (Given N O I)
  ends_by (CameAlone j g) = g ∷ []
  ends_by (CameClosed number gs) = gs

  abbrev pub joins_by : Way N O I → List (Joining N)
  joins_by (CameAlone j g) = j ∷ []
  joins_by (CameClosed number gs) = []

  abbrev pub sockets_by : Way N O I → List ObjId
  sockets_by (CameAlone j g) = []
  sockets_by (CameClosed number gs) = number ∷ []

  -- an end is as it joined: with both halves, and not sealed
  pub record IsAsJoined (in_name : I → N) (j : Joining N) (g : Given N O I) : Type 0 where
    pub end : g.end ≡ j.end
    pub written : g.written ≡ j.written
    pub read : in_name g.input ≡ j.read
    pub writes : is_some g.out ≡ true
    pub unsealed : g.sealed ≡ false

  -- an end is one of these, and in this control state an object's
  pub record IsBrought (c : Control) (given : List (Given N O I)) (o : ℕ) (g : Given N O I) : Type 0 where
    pub one : Contains given g
    pub its : owner_of c g.end ≡ o

  module _ {S : Type 0} (K : Known S O I N) (brings : ℕ → Given N O I → Type 0) where
    -- the ends of a closed socket came two by two different, each as that socket may bring it
    abbrev pub IsWay : Way N O I → Type 0
    IsWay (CameAlone j g) = IsAsJoined K.in_name j g
    IsWay (CameClosed number gs) = AllTwo K.exact (map (held_given K.out_name K.in_name) gs) × All (brings number.0) gs

    -- the ends that came since are those that joined and those of the closed sockets that came, in order
    pub record HasCome (from to : ClosedSockets N O I) : Type 0 where
      pub ways : List (Way N O I)
      pub fit : AllByRecursion IsWay ways
      pub came : to.came.items ≡ from.came.items ++ map (came_given K.in_name) (flat_map ends_by ways)
      pub joins : standing_joins to.joins.items ≡ standing_joins from.joins.items ++ flat_map joins_by ways
      pub sockets : map (λ s. s.number) to.sockets.items ≡ map (λ s. s.number) from.sockets.items ++ flat_map sockets_by ways
