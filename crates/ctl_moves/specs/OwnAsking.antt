-- What a listener or a session asks without making anything, with its holder: to be told to end, that its output is over, that its end is asked (own choice, after libzmq's `own_t` and `session_base_t`).
use Rattle.std.specs.Prelude.{◌≡◌, ◌≢◌, ◌<◌, ◌≤◌, ℕ, true, false, Option, Some}
use Rattle.zq_base.specs.declared.ids.EndId.{EndId}
use Rattle.zq_base.specs.declared.ids.ObjId.{ObjId}
use Rattle.spec_control.specs.declared.end.Reason.{Reason}
use Rattle.spec_control.specs.declared.stage.Use.TheVariants.{Unused}
use Rattle.spec_control.specs.Place.{is_here}
use Rattle.spec_control.specs.Stage.{has_ended}
use Rattle.spec_control.specs.Rows.{obj, may_end}
use Rattle.spec_control.specs.Control.{Control, ask, owner_of, place_of, try_end}
use Rattle.spec_control.specs.After.{owner_or_root, uses_reason}
use Rattle.spec_control.specs.ControlRun.{MayGive}
use Rattle.control_laws.specs.Kept.{Kept}
use Rattle.control_laws.specs.Room.{to_come}
use Rattle.desk.specs.declared.load.Load.{Load}
use Rattle.desk.specs.Heard.{over_in}
use Rattle.desk.specs.Holding.{HearsMore, Holding}
use Rattle.desk.specs.Joins.{KeepsObjects}
use Rattle.desk.specs.Lent.{HasAll}
use Rattle.ctl_state.specs.declared.state.State.{State}
use Rattle.ctl_state.specs.Boxes.{mail_at}
use Rattle.ctl_state.specs.Stands.{Stands}
use Rattle.ctl_moves.specs.Striking.{JoinsNone, Led}
use Rattle.ctl_moves.specs.Turning.{TurnsOnce}

-- an object that has not ended and asked for nothing may ask its owner, with room for that
pub record MayAskOwner {L : Type 0} (s : State L) (i : ℕ) (c : Control) : Type 0 where
  pub lives : has_ended (obj c.rows i).stage ≡ false
  pub unused : (obj c.rows i).request ≡ Unused
  pub room : 0 < (mail_at s.boxes (obj c.rows (owner_or_root (obj c.rows i).owner)).slot).spare

-- a session's request for its end with this reason is used up, and its end is asked
abbrev pub asks_own : Reason → EndId → Control → Control
asks_own reason e c = ask reason false e (uses_reason reason (owner_of c e) c)

module _ {N O I : Type 0} where
  -- an object that waits for its output alone may end, with its holder, and with room for its acknowledgement
  pub record MayEndOver (s : State (Load N O I)) (h : Holding N) (i : ℕ) : Type 0 where
    pub control : Control
    pub names : EndId → Option N
    pub stands : Stands s control
    pub has : HasAll names control h
    pub lent : h.holds i ≡ true
    pub above : i ≢ 0
    pub may : may_end control.rows i ≡ true
    pub room : (w : ℕ) → (obj control.rows i).owner ≡ Some w → 0 < (mail_at s.boxes (obj control.rows w).slot).spare

  -- a session may ask its end that is there with this reason, with its holder, and with room for all that may still come
  pub record MayAskOwn (s : State (Load N O I)) (h : Holding N) (e : EndId) (reason : Reason) : Type 0 where
    pub control : Control
    pub names : EndId → Option N
    pub stands : Stands s control
    pub has : HasAll names control h
    pub kept : Kept control
    pub lent : h.holds (owner_of control e) ≡ true
    pub lives : has_ended (obj control.rows (owner_of control e)).stage ≡ false
    pub there : is_here (place_of control e) ≡ true
    pub gives : MayGive reason (obj control.rows (owner_of control e))
    pub room : (m : ℕ) → to_come control m ≤ (mail_at s.boxes m).spare

module _ {N O I : Type 0} (out_name : O → N) (in_name : I → N) where
  -- it has ended, and its holder heard of it
  pub record EndsOver (names : EndId → Option N) (c : Control) (i : ObjId) (s t : State (Load N O I)) (h k : Holding N) : Type 0 where
    pub led : Led out_name in_name names (try_end i.0 false c) s t k
    pub turned : TurnsOnce c (try_end i.0 false c) h k
    pub joined : k.joined ≡ h.joined
    pub objects : KeepsObjects c (try_end i.0 false c) h k
    pub heard : HearsMore (over_in i c (try_end i.0 false c)) h k

  -- its end was asked, and its holder was told
  pub record AsksOwn (names : EndId → Option N) (c : Control) (e : EndId) (reason : Reason) (s t : State (Load N O I)) (h k : Holding N) : Type 0 where
    pub led : Led out_name in_name names (asks_own reason e c) s t k
    pub turned : TurnsOnce c (asks_own reason e c) h k
    pub joins : JoinsNone h k
