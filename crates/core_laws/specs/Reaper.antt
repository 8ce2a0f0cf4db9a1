-- What calls of an open socket leave to the reaper: of closed sockets, and of the ends that are on their way to it (own choice, after libzmq's `reaper_t`).
use Rattle.std.specs.Prelude.{◌≡◌, ◌≢◌, ◌++◌, ℕ, true, List, Some, None, All, is_some}
use Rattle.zq_base.specs.Ends.{other_end}
use Rattle.zq_base.specs.declared.ids.EndId.{EndId}
use Rattle.spec_control.specs.Control.{id, owner_of, place_of}
use Rattle.spec_control.specs.Names.{name_of}
use Rattle.msg_pipe.specs.Known.{Known}
use Rattle.desk.specs.declared.given.Given.{Given}
use Rattle.desk.specs.Holding.{Holding}
use Rattle.desk.specs.Lent.{has_writer}
use Rattle.desk.specs.TakingOver.{AreDistinct, AreGivenWith}
use Rattle.ctl_plane.specs.Giving.{AreOnTheirWay}
use Rattle.ctl_plane.specs.Past.{control_of}
use Rattle.desk.specs.Desk.{HasWhatTheySay}
use Rattle.socket_laws.specs.Asked.{WereAsked}
use Rattle.closed_ends.specs.declared.sockets.ClosedSocket.{ClosedSocket}
use Rattle.closed_ends.specs.declared.sockets.ClosedSockets.{ClosedSockets}
use Rattle.closed_ends.specs.Has.{all_ends, holding_in}
use Rattle.closed_ends.specs.Sound.{AreSound}
use Rattle.plain_desk.specs.Lent.{moments_of, GrowsBy, HasSocket, IsOneOrder, Lent}
use Rattle.line_socket.specs.Leaving.{LeavesPipes}
use Rattle.core_laws.specs.Calls.{for_caller, AreCallsOn}

module _ {G N T O I : Type 0} (in_name : I → N) where
  -- the pipes of an end go by their names, and where its writing half is there behind the calls, it was not asked to give it away
  pub record IsNamedEnd (d new : Lent G N T) (g : Given N O I) : Type 0 where
    pub written : name_of d.items g.end ≡ Some g.written
    pub read : name_of d.items (other_end g.end) ≡ Some (in_name g.input)
    pub writes : is_some g.out ≡ true → has_writer (place_of (control_of new.past) g.end) ≡ true

  -- and it is of another object
  pub record IsEndElse (o : ℕ) (d new : Lent G N T) (g : Given N O I) : Type 0 where
    pub named : IsNamedEnd d new g
    pub other : owner_of (control_of d.past) g.end ≢ o

-- ---- the laws

-- whoever has objects of no kind, as closed sockets, has of them what its moments say still
abbrev pub ReapersKeep : (G N T : Type 0) → Type 0
ReapersKeep G N T = (o : ℕ) (old new : Lent G N T) → AreCallsOn o old new → HasSocket old (id o) →
    (j : ℕ) (h : Holding N) → ((i : ℕ) → h.kind i ≡ None) → HasWhatTheySay j (moments_of (for_caller j old)) h → HasWhatTheySay j (moments_of (for_caller j new)) h

-- the ends of closed sockets, of which the reaper has what its moments say, and those on their way to it, are of other objects than a socket that was open, also behind its close
pub record ElseBehind {P N O I : Type 0} (K : Known P O I N) (G T : Type 0) : Type 0 where
  pub closed : (o : ℕ) (old new : Lent G N T) → AreCallsOn o old new → HasSocket old (id o) → (j : ℕ) (pipes : P) (closed : ClosedSockets N O I) →
      AreSound K pipes closed.sockets.items → HasWhatTheySay j (moments_of (for_caller j old)) (holding_in K.out_name K.in_name closed) → All (IsEndElse K.in_name o new new) (all_ends closed.sockets.items)
  pub given : (o : ℕ) (old new : Lent G N T) → AreCallsOn o old new → HasSocket old (id o) → (gs more : List (Given N O I)) →
      AreOnTheirWay K.in_name (control_of old.past) (name_of old.items) gs → AreOnTheirWay K.in_name (control_of new.past) (name_of new.items) (gs ++ more) → All (IsEndElse K.in_name o new new) gs

-- where calls left all pipes but those of a socket's ends, the ends of other objects are with their halves still, and closed sockets are sound
pub record ElseStay {P N O I : Type 0} (K : Known P O I N) (G T : Type 0) : Type 0 where
  pub given : (o : ℕ) (d new : Lent G N T) → IsOneOrder new → AreDistinct K.exact (name_of d.items) → (before behind : P) → LeavesPipes K o d (control_of new.past) before behind →
      (gs : List (Given N O I)) → All (IsEndElse K.in_name o d new) gs → AreGivenWith K before gs → AreGivenWith K behind gs
  pub sound : (o : ℕ) (d new : Lent G N T) → IsOneOrder new → AreDistinct K.exact (name_of d.items) → (before behind : P) → LeavesPipes K o d (control_of new.past) before behind →
      (ss : List (ClosedSocket N O I)) → All (IsEndElse K.in_name o d new) (all_ends ss) → AreSound K before ss → AreSound K behind ss

-- ends that were asked were so then, too
abbrev pub AskedStay : (G N T : Type 0) → Type 0
AskedStay G N T = (old new : Lent G N T) → IsOneOrder old → IsOneOrder new → GrowsBy old new → (es : List EndId) → WereAsked (control_of old.past) es → WereAsked (control_of new.past) es
