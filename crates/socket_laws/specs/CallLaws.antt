-- What a call of an open socket leaves of the steps past (own choice, after libzmq's `socket_base_t`).
use Rattle.std.specs.Prelude.{◌≡◌, ℕ, Bool, true, false, List, []}
use Rattle.zq_base.specs.declared.ids.EndId.{EndId}
use Rattle.zq_base.specs.declared.kind.Kind.{Kind}
use Rattle.msg_pipe.specs.Known.{Known}
use Rattle.end_table.specs.Rows.{Rows}
use Rattle.end_table.specs.Runs.{DoesAll}
use Rattle.spec_pattern.specs.PipeStep.{PipeStep}
use Rattle.spec_control.specs.declared.request.Req.{Req}
use Rattle.spec_control.specs.Control.{Control}
use Rattle.spec_control.specs.Moments.{Moment}
use Rattle.desk.specs.declared.given.Given.{Given}
use Rattle.desk.specs.Making.{IsMadeFor}
use Rattle.desk.specs.Desk.{HasWhatTheySay}
use Rattle.spec_run.specs.Event.{acts_said}
use Rattle.spec_run.specs.SocketCall.{step_acts}
use Rattle.end_table.specs.Changes.{AreMakings}
use Rattle.sock_core.specs.declared.sock.SockCore.{SockCore}
use Rattle.sock_core.specs.Has.{holding_in}
use Rattle.sock_core.specs.Sound.{AreSound}
use Rattle.plain_desk.specs.Lent.{Lent, IsOneOrder, moments_of}
use Rattle.socket_laws.specs.OwnQuiet.{may_pair_by}
use Rattle.socket_laws.specs.Calling.{StandsOver, IsCalledBy, AddsItem, AddsNone, LeavesIt}

-- what a request makes, with the control plane as it found it
abbrev pub made_as : Control → Req → EndId → (written read : ℕ) → Type 0
made_as c req e written read = (x : Control) × (x ≡ c) × IsMadeFor x req e written read

module _ (C W : Type 0) {S O I N : Type 0} (K : Known S O I N) (kind : C → Kind) (T : Type 0) (made : Bool) (may_make : EndId → ℕ → ℕ → Type 0) where
  -- a call on the control plane of a socket that it leaves open: it stands over the acts of its item
  abbrev pub SocketCallsStand : Type 0
  SocketCallsStand = (d : Lent (Given N O I) N T) (before : S) (a : SockCore C W N O I) (e : Lent (Given N O I) N T) (now : S) (b : SockCore C W N O I) →
      (called : IsCalledBy K kind made may_make d before a e now b) → (holding_in (kind b.kind) b).holds a.number.0 ≡ true →
      (m : Moment N T) → AddsItem K kind made may_make d before a e m →
      StandsOver K a.number.0 d before (acts_said m) e now × LeavesIt K kind a.number.0 d e b called.does.changes

  -- or of none, where the order has no item more
  abbrev pub StillCallsStand : Type 0
  StillCallsStand = (d : Lent (Given N O I) N T) (before : S) (a : SockCore C W N O I) (e : Lent (Given N O I) N T) (now : S) (b : SockCore C W N O I) →
      (called : IsCalledBy K kind made may_make d before a e now b) → (holding_in (kind b.kind) b).holds a.number.0 ≡ true → AddsNone d e →
      StandsOver K a.number.0 d before [] e now × LeavesIt K kind a.number.0 d e b called.does.changes

  -- a close, which does no more to pipes than to make some, too
  abbrev pub ClosesStand : Type 0
  ClosesStand = (d : Lent (Given N O I) N T) (before : S) (a : SockCore C W N O I) (e : Lent (Given N O I) N T) (now : S) (b : SockCore C W N O I) →
      (called : IsCalledBy K kind made may_make d before a e now b) → AreMakings called.does.changes →
      (m : Moment N T) → AddsItem K kind made may_make d before a e m → may_pair_by m.item ≡ false →
      StandsOver K a.number.0 d before (acts_said m) e now × LeavesIt K kind a.number.0 d e b called.does.changes

module _ (C W : Type 0) {S O I N : Type 0} (K : Known S O I N) (kind : C → Kind) (T : Type 0) where
  -- calls on messages, over their steps
  abbrev pub MessageCallsStand : Type 0
  MessageCallsStand = (d : Lent (Given N O I) N T) (before : S) (a : SockCore C W N O I) → IsOneOrder d →
      HasWhatTheySay d.caller (moments_of d) (holding_in (kind a.kind) a) → (holding_in (kind a.kind) a).holds a.number.0 ≡ true → AreSound K before a.ends.rows.items a.ends.places.items →
      (steps : List PipeStep) (now : S) (rows : Rows O I) → DoesAll K (record { pipes = before; rows = a.ends.rows.items }) steps (record { pipes = now; rows = rows }) →
      StandsOver K a.number.0 d before (step_acts steps) d now
