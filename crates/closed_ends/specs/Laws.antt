-- What the calls of the reaper leave of open sockets and of given ends, and those of a socket of the reaper's (own choice).
use Rattle.std.specs.Prelude.{◌≡◌, ℕ, true, List, Some, All, is_some}
use Rattle.msg_pipe.specs.Known.{Known}
use Rattle.end_table.specs.Rows.{Rows}
use Rattle.desk.specs.declared.given.Given.{Given}
use Rattle.desk.specs.declared.halves.Halves.{Halves}
use Rattle.desk.specs.TakingOver.{AreGivenWith}
use Rattle.end_table.specs.declared.table.Place.{Place}
use Rattle.end_table.specs.declared.table.EndTable.{EndTable}
use Rattle.end_table.specs.Places.{place_at}
use Rattle.end_table.specs.Sound.{IsSound, Fits}
use Rattle.end_table.specs.Others.{Leaves as SocketLeaves, IsNoneWritten as NoneWrittenBySocket, IsNoneRead as NoneReadBySocket, IsUnsettled as UnsettledBySocket}
use Rattle.closed_ends.specs.declared.sockets.ClosedSocket.{ClosedSocket}
use Rattle.closed_ends.specs.declared.sockets.ClosedSockets.{ClosedSockets}
use Rattle.closed_ends.specs.Has.{all_ends}
use Rattle.closed_ends.specs.Sound.{AreSound}
use Rattle.closed_ends.specs.Others.{IsNoneWritten, IsNoneRead, IsUnsettled, Leaves}

module _ {S O I N : Type 0} (K : Known S O I N) where
  -- the halves of a socket's end are of other pipes than those of the reaper's ends
  pub record IsElseThanClosed (from to : ClosedSockets N O I) (p : Place N I) : Type 0 where
    pub outs : p.writes ≡ true → IsNoneWritten K from to p.written
    pub unsettled : p.writes ≡ true → IsUnsettled K to p.written
    pub ins : IsNoneRead K from to p.read

  -- a socket's ends, whose halves are of other pipes, stay sound
  abbrev pub LeavesSockets : Type 0
  LeavesSockets = (old new : S) (from to : ClosedSockets N O I) (rows : Rows O I) (places : List (Place N I)) →
      Leaves K old from new to → ((k : ℕ) (p : Place N I) → place_at places k ≡ Some p → p.held ≡ true → IsElseThanClosed from to p) →
      IsSound K old rows places → IsSound K new rows places

  -- so are those of an end that was given, and of halves on their way
  pub record IsGivenElseThanClosed (from to : ClosedSockets N O I) (g : Given N O I) : Type 0 where
    pub outs : is_some g.out ≡ true → IsNoneWritten K from to g.written
    pub unsettled : is_some g.out ≡ true → IsUnsettled K to g.written
    pub ins : IsNoneRead K from to (K.in_name g.input)

  pub record AreElseThanClosed (from to : ClosedSockets N O I) (h : Halves O I) : Type 0 where
    pub outs : IsNoneWritten K from to (K.out_name h.out)
    pub unsettled : IsUnsettled K to (K.out_name h.out)
    pub ins : IsNoneRead K from to (K.in_name h.input)

  -- given ends are with their halves still
  abbrev pub LeavesGiven : Type 0
  LeavesGiven = (old new : S) (from to : ClosedSockets N O I) (gs : List (Given N O I)) →
      Leaves K old from new to → All (IsGivenElseThanClosed from to) gs → AreGivenWith K old gs → AreGivenWith K new gs

  -- and halves on their way may join the ends that they might have joined
  abbrev pub LeavesFitting : Type 0
  LeavesFitting = (old new : S) (from to : ClosedSockets N O I) (places : List (Place N I)) (h : Halves O I) →
      Leaves K old from new to → AreElseThanClosed from to h → Fits K old places h → Fits K new places h

  -- the halves of an end of a closed socket are of other pipes than those of a socket that was called
  pub record IsClosedElse (from to : EndTable N O I) (g : Given N O I) : Type 0 where
    pub outs : is_some g.out ≡ true → NoneWrittenBySocket K from to g.written
    pub unsettled : is_some g.out ≡ true → UnsettledBySocket K to g.written
    pub ins : NoneReadBySocket K from to (K.in_name g.input)

  -- what a socket's calls leave of them
  abbrev pub LeavesClosed : Type 0
  LeavesClosed = (old new : S) (from to : EndTable N O I) (ss : List (ClosedSocket N O I)) →
      SocketLeaves K old from new to → All (IsClosedElse from to) (all_ends ss) → AreSound K old ss → AreSound K new ss
