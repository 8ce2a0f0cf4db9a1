-- What goes on over a call of the reaper (own choice, after libzmq's `reaper_t`).
use Rattle.std.specs.Prelude.{◌≡◌, ◌++◌, ◌∷◌, [], ℕ, true, List}
use Rattle.std.specs.List.{list_any}
use Rattle.zq_base.specs.declared.ids.SlotId.{SlotId}
use Rattle.spec_pattern.specs.PipeStep.{PipeStep}
use Rattle.spec_control.specs.Names.{name_of}
use Rattle.spec_run.specs.Act.{Act, Deed, acts_of, steps_in}
use Rattle.spec_run.specs.InTurns.{ReaperStep}
use Rattle.spec_run.specs.Worker.{ReapsLetter}
use Rattle.spec_run.specs.OwnedRun.{AreCountedBy}
use Rattle.msg_pipe.specs.Known.{Known}
use Rattle.any_sock.specs.declared.any_sock.AnySock.{AnySock}
use Rattle.sock_core.specs.declared.sock.SockCore.{SockCore}
use Rattle.desk.specs.TakingOver.{AreGivenWith}
use Rattle.ctl_plane.specs.Past.{control_of}
use Rattle.desk.specs.Desk.{HasWhatTheySay}
use Rattle.socket_laws.specs.Names.{NamesStand}
use Rattle.socket_laws.specs.Bounds.{TellIdentities}
use Rattle.plain_desk.specs.Lent.{moments_of}
use Rattle.core_laws.specs.Agrees.{AgreesIn}
use Rattle.core_laws.specs.Done.{PastIn}
use Rattle.core_laws.specs.Reaps.{ReapDone}
use Rattle.closed_ends.specs.Finding.{HasRoom}
use Rattle.closed_ends.specs.Has.{all_ends, holding_in, is_socket}
use Rattle.reaper.specs.Calls.{FitsClosed}
use Rattle.core_laws.specs.Sealed.{AllAsked}
use Rattle.core_laws.specs.ReapedComing.{AwayUnsealed, HasOnlyTaken, HasTaken}
use Rattle.reaper.specs.Steps.{acts_at, acts_reaped, DeskStands, MayReap, ReapedAt, ReapedSo, ReapParts, WantsMemory}

-- there is one I/O worker; each pipe that has a name has one of its own; nothing was sealed in what is on its way, and it is with its halves; the reaper has of closed sockets what its moments say, each of them that was taken over and lives, and no other socket; and each end that is told as sealed was asked
pub record ReaperHas {S N O I T : Type 0} (K : Known S O I N) (l : ReapParts S N O I T) : Type 0 where
  pub desk : DeskStands K l.desk
  pub one : l.desk.past.workers ≡ 1
  pub names : NamesStand K (control_of l.desk.past) (name_of l.desk.items) l.pipes
  pub unsealed : AwayUnsealed K l.desk l.pipes
  pub has : HasWhatTheySay l.desk.caller (moments_of l.desk) (holding_in K.out_name K.in_name l.closed)
  pub fits : FitsClosed K l.pipes l.closed
  pub given : AreGivenWith K l.pipes l.desk.past.given
  pub asked : AllAsked (control_of l.desk.past) (all_ends l.closed.sockets.items)
  pub given_asked : AllAsked (control_of l.desk.past) l.desk.past.given
  pub taken : HasTaken (control_of l.desk.past) (holding_in K.out_name K.in_name l.closed)
  pub only : HasOnlyTaken l.desk.caller l.desk
  pub tells : TellIdentities l.desk.items

-- so it is behind these steps; the steps past stand with them and count; and the sockets that callers have open agree still
pub record GoesBy (W : Type 0) {S N O I T : Type 0} (K : Known S O I N) (old new : ReapParts S N O I T) (steps : List PipeStep) : Type 0 where
  pub has : ReaperHas K new
  pub past : (past : List PipeStep) → PastIn K old.desk old.pipes past → PastIn K new.desk new.pipes (past ++ steps)
  pub counted : (past : List PipeStep) → PastIn K old.desk old.pipes past → AreCountedBy past (control_of old.desk.past).settlements → AreCountedBy (past ++ steps) (control_of new.desk.past).settlements
  pub agree : (j : ℕ) (t : SockCore AnySock W N O I) → AgreesIn K old.desk j old.pipes t → AgreesIn K new.desk j new.pipes t

-- these acts, which the caller did, are the reaper's step
pub record ReapIsStep (W : Type 0) {S N O I T : Type 0} (K : Known S O I N) (old new : ReapParts S N O I T) (acts : List (Act N T)) : Type 0 where
  pub goes : GoesBy W K old new (steps_in acts)
  pub done : ReapDone K old.desk new.desk old.pipes new.pipes acts
  pub deed : Deed N T
  pub acts_are : acts_of deed ≡ acts
  pub step : ReaperStep (deed ∷ [])

-- these acts, which the caller did, take one letter of this mailbox, which is one of the reaper's
pub record ReapIsLetter (W : Type 0) {S N O I T : Type 0} (K : Known S O I N) (slot : ℕ) (old new : ReapParts S N O I T) (acts : List (Act N T)) : Type 0 where
  pub goes : GoesBy W K old new (steps_in acts)
  pub done : ReapDone K old.desk new.desk old.pipes new.pipes acts
  pub reaps : ReapsLetter slot acts

-- nothing was done, and no closed socket came
pub record ReapIsNone (W : Type 0) {S N O I T : Type 0} (K : Known S O I N) (old new : ReapParts S N O I T) : Type 0 where
  pub goes : GoesBy W K old new []
  pub done : ReapDone K old.desk new.desk old.pipes new.pipes []
  pub holds : (i : ℕ) → list_any (is_socket i) new.closed.sockets.items ≡ true → list_any (is_socket i) old.closed.sockets.items ≡ true

-- ---- the law

-- the reaper may take a letter, where there is room; and so it goes on over its calls
pub record ReapsGoOn (W : Type 0) {S N O I : Type 0} (K : Known S O I N) (T : Type 0) : Type 0 where
  pub may : (l : ReapParts S N O I T) → ReaperHas K l → HasRoom l.closed → MayReap K l
  pub steps : (old new : ReapParts S N O I T) → ReaperHas K old → (r : ReapedSo K old new) → ReapIsStep W K old new (acts_reaped K old new r)
  pub letters : (slot : SlotId) (old new : ReapParts S N O I T) → ReaperHas K old → (r : ReapedAt K slot old new) → ReapIsLetter W K slot.0 old new (acts_at K slot old new r)
  pub none : (old new : ReapParts S N O I T) → ReaperHas K old → WantsMemory K old new → ReapIsNone W K old new
