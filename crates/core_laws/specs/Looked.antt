-- What a look of the reaper's leaves of all pipes, of what is on its way, and of open sockets (own choice, after libzmq's `pipe_t::check_read`).
use Rattle.std.specs.Prelude.{◌≡◌, ◌++◌, ◌∷◌, [], ℕ, true, List}
use Rattle.zq_base.specs.declared.ids.EndId.{EndId}
use Rattle.spec_pattern.specs.PipeStep.{PipeStep, read_through}
use Rattle.spec_control.specs.Names.{name_of}
use Rattle.spec_run.specs.OwnedRun.{AreCountedBy}
use Rattle.msg_pipe.specs.Known.{Known}
use Rattle.msg_pipe.specs.Told.{front_step}
use Rattle.msg_pipe.specs.declared.pipes.Front.{Front}
use Rattle.any_sock.specs.declared.any_sock.AnySock.{AnySock}
use Rattle.desk.specs.declared.given.Given.{Given}
use Rattle.desk.specs.TakingOver.{AreGivenWith}
use Rattle.ctl_plane.specs.Giving.{AreOnTheirWay}
use Rattle.ctl_plane.specs.Past.{control_of}
use Rattle.desk.specs.Desk.{HasWhatTheySay}
use Rattle.socket_laws.specs.Sides.{is_shut, IsDoneAt}
use Rattle.socket_laws.specs.Standing.{opens_in, PastStands}
use Rattle.socket_laws.specs.Names.{NamesStand}
use Rattle.sock_core.specs.declared.sock.SockCore.{SockCore}
use Rattle.closed_ends.specs.declared.sockets.ClosedSockets.{ClosedSockets}
use Rattle.closed_ends.specs.Ending.{LooksOnce}
use Rattle.closed_ends.specs.Has.{holding_in}
use Rattle.closed_ends.specs.Sound.{AreSound}
use Rattle.plain_desk.specs.Lent.{moments_of, IsOneOrder, Lent}
use Rattle.core_laws.specs.Agrees.{AgreesIn}
use Rattle.core_laws.specs.ReapedCall.{IsReapersCall}
use Rattle.core_laws.specs.ReapedComing.{AwayUnsealed, HasOnlyTaken}

module _ {S O I N T : Type 0} (K : Known S O I N) where
  -- whoever has of closed sockets what its moments say looked at the front of the pipe that an end of one reads; each pipe that has a name has one of its own
  pub record ReaperLooked (d : Lent (Given N O I) N T) (before behind : S) (from : ClosedSockets N O I) : Type 0 where
    pub order : IsOneOrder d
    pub sound : AreSound K before from.sockets.items
    pub has : HasWhatTheySay d.caller (moments_of d) (holding_in K.out_name K.in_name from)
    pub names : NamesStand K (control_of d.past) (name_of d.items) before
    pub object : ℕ
    pub end : EndId
    pub found : Front
    pub looked : LooksOnce K before behind object end found (holding_in K.out_name K.in_name from)

-- each pipe that has a name has one of its own still, what is on its way is unsealed and with its halves, and the sockets that callers have open agree
pub record LooksKeep (W T : Type 0) {S O I N : Type 0} (K : Known S O I N) : Type 0 where
  pub names : (d : Lent (Given N O I) N T) (before behind : S) (from : ClosedSockets N O I) → ReaperLooked K d before behind from → NamesStand K (control_of d.past) (name_of d.items) behind
  pub unsealed : (d : Lent (Given N O I) N T) (before behind : S) (from : ClosedSockets N O I) → ReaperLooked K d before behind from → AwayUnsealed K d before → AwayUnsealed K d behind
  pub given : (d : Lent (Given N O I) N T) (before behind : S) (from : ClosedSockets N O I) → ReaperLooked K d before behind from →
      AreOnTheirWay K.in_name (control_of d.past) (name_of d.items) d.past.given → AreGivenWith K before d.past.given → AreGivenWith K behind d.past.given
  pub agree : (d : Lent (Given N O I) N T) (before behind : S) (from : ClosedSockets N O I) → ReaperLooked K d before behind from → HasOnlyTaken d.caller d →
      (j : ℕ) (t : SockCore AnySock W N O I) → AgreesIn K d j before t → AgreesIn K d j behind t

-- the steps past stand with that of the look, and settled pipes have their counts
pub record LooksStand {S O I N : Type 0} (K : Known S O I N) (T : Type 0) : Type 0 where
  pub past : (d : Lent (Given N O I) N T) (before behind : S) (from : ClosedSockets N O I) (l : ReaperLooked K d before behind from) (past : List PipeStep) →
      PastStands K (control_of d.past) (name_of d.items) before past → PastStands K (control_of d.past) (name_of d.items) behind (past ++ front_step (read_through l.end) l.found ∷ [])
  pub counted : (d : Lent (Given N O I) N T) (before behind : S) (from : ClosedSockets N O I) (l : ReaperLooked K d before behind from) (past : List PipeStep) →
      AreCountedBy past (control_of d.past).settlements → AreCountedBy (past ++ front_step (read_through l.end) l.found ∷ []) (control_of d.past).settlements

-- nobody has the socket open at whose end the look is, behind a call of the reaper that followed, too
abbrev pub LooksAreShut : {S O I N : Type 0} → Known S O I N → (T : Type 0) → Type 0
LooksAreShut {S} {O} {I} {N} K T = (d new : Lent (Given N O I) N T) (before behind : S) (from : ClosedSockets N O I) (l : ReaperLooked K d before behind from) → IsReapersCall d new → HasOnlyTaken d.caller d →
    IsDoneAt (control_of new.past) (λ i. is_shut (opens_in new.items i) ≡ true) (front_step (read_through l.end) l.found)
