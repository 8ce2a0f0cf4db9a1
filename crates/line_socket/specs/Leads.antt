-- Acts that lead from one state of a lent socket, its pipes and the control plane to another (own choice).
use Rattle.std.specs.Prelude.{◌≡◌, ◌+◌, ◌++◌, Bool, true, false, List, Option, Some, None, is_some, length}
use Rattle.spec_run.specs.Act.{Act, moments_in}
use Rattle.desk.specs.declared.given.Given.{Given}
use Rattle.desk.specs.TakingOver.{AreGivenWith}
use Rattle.msg_pipe.specs.Known.{Known}
use Rattle.any_sock.specs.declared.any_sock.AnySock.{AnySock}
use Rattle.sock_core.specs.declared.sock.SockCore.{SockCore}
use Rattle.sock_calls.specs.Calls.{LeavesOthers}
use Rattle.plain_desk.specs.Lent.{GrowsBy, moments_of}
use Rattle.line_socket.specs.Owned.{LentParts}
use Rattle.line_socket.specs.Leaving.{LeavesStanding}

-- a socket is there, and was not closed
abbrev pub is_open_in : {W N O I : Type 0} → Option (SockCore AnySock W N O I) → Bool
is_open_in None = false
is_open_in (Some s) = s.is_open

module _ {N O I S : Type 0} (K : Known S O I N) where
  -- of ends on their way to the reaper, there are more behind those before, with halves of these pipes
  pub record SendsMore (pipes : S) (old new : List (Given N O I)) : Type 0 where
    pub ends : List (Given N O I)
    pub behind : new ≡ old ++ ends
    pub given : AreGivenWith K pipes ends

module _ {W N O I S T : Type 0} (K : Known S O I N) where
  -- the ends on their way to the reaper are those before and, once the socket is closed, its own behind them; a closed one does nothing more
  pub record GivesAtClose (old new : LentParts W N O I S T) : Type 0 where
    pub was_open : is_open_in new.socket ≡ true → is_open_in old.socket ≡ true
    pub kept : is_open_in new.socket ≡ true → new.desk.past.given ≡ old.desk.past.given
    pub sent : SendsMore K new.pipes old.desk.past.given new.desk.past.given
    pub over : is_open_in old.socket ≡ false → (new.pipes ≡ old.pipes) × (new.desk.past.given ≡ old.desk.past.given)

  -- the caller's moments and no others are those in the acts, the ends of other sockets are left, and what stood of the pipes stands
  pub record Leads (old : LentParts W N O I S T) (acts : List (Act N T)) (new : LentParts W N O I S T) : Type 0 where
    pub moments : moments_of new.desk ≡ moments_of old.desk ++ moments_in acts
    pub since : new.since ≡ old.since + length (moments_in acts)
    pub grows : GrowsBy old.desk new.desk
    pub others : is_some old.socket ≡ true → LeavesOthers K old.socket new.socket old.pipes new.pipes
    pub given : GivesAtClose old new
    pub standing : LeavesStanding K old acts new
