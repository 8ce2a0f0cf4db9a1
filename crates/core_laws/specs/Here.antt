-- Where the ends of closed sockets are that the reaper has, by the control state (own choice, after libzmq's `reaper_t`).
use Rattle.std.specs.Prelude.{◌≡◌, ℕ, List, Option, Some, map}
use Rattle.zq_base.specs.Ends.{PipeId}
use Rattle.msg_pipe.specs.Known.{Known}
use Rattle.spec_control.specs.Control.{Control}
use Rattle.desk.specs.Lent.{HasAll}
use Rattle.end_table.specs.declared.table.Place.{Place}
use Rattle.end_table.specs.Places.{place_at}
use Rattle.socket_laws.specs.Changes.{ArePlacesNamed}
use Rattle.socket_laws.specs.Ends.{IsHeldWhere}
use Rattle.closed_ends.specs.declared.sockets.ClosedSockets.{ClosedSockets}
use Rattle.closed_ends.specs.Finding.{place_given}
use Rattle.closed_ends.specs.Has.{all_ends, holding_in}
use Rattle.closed_ends.specs.Sound.{AreSound}

-- ends at places of their own are named, each is where such an end may be, and they are two by two different
pub record AreHere {N I : Type 0} (c : Control) (names : PipeId → Option N) (ps : List (Place N I)) : Type 0 where
  pub named : ArePlacesNamed names ps
  pub held : (k : ℕ) (p : Place N I) → place_at ps k ≡ Some p → IsHeldWhere c p
  pub different : (j k : ℕ) (p q : Place N I) → place_at ps j ≡ Some p → place_at ps k ≡ Some q → p.end ≡ q.end → j ≡ k

-- so are the ends of the reaper's closed sockets, of which it has what the control state says
abbrev pub ReaperEndsAreHere : {S O I N : Type 0} → Known S O I N → Type 0
ReaperEndsAreHere {S} {O} {I} {N} K = (c : Control) (names : PipeId → Option N) (pipes : S) (closed : ClosedSockets N O I) →
    AreSound K pipes closed.sockets.items → HasAll names c (holding_in K.out_name K.in_name closed) → AreHere c names (map (place_given K.in_name) (all_ends closed.sockets.items))
