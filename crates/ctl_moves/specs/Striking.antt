-- What the striking of a bind or a connect needs, and what it leaves (own choice).
use Rattle.std.specs.Prelude.{◌≡◌, ◌≤◌, ℕ, true, false, Option}
use Rattle.zq_base.specs.declared.ids.EndId.{EndId}
use Rattle.spec_control.specs.Stage.{has_ended}
use Rattle.spec_control.specs.Rows.{obj}
use Rattle.spec_control.specs.Control.{Control}
use Rattle.control_laws.specs.Kept.{Kept}
use Rattle.control_laws.specs.Room.{to_come}
use Rattle.desk.specs.declared.load.Load.{Load}
use Rattle.desk.specs.Holding.{HearsNone, Holding}
use Rattle.desk.specs.Lent.{HasAll}
use Rattle.ctl_state.specs.declared.state.State.{State}
use Rattle.ctl_state.specs.Boxes.{mail_at}
use Rattle.ctl_state.specs.Lists.{belongings_at}
use Rattle.ctl_state.specs.Stands.{Stands}
use Rattle.ctl_moves.specs.Turning.{PutsLoaded}

-- no end joined a holder, it has the objects that it had, with their kinds, and was told nothing of them
pub record JoinsNone {N : Type 0} (old new : Holding N) : Type 0 where
  pub joined : new.joined ≡ old.joined
  pub holds : (i : ℕ) → new.holds i ≡ old.holds i
  pub kinds : (i : ℕ) → new.kind i ≡ old.kind i
  pub heard : HearsNone old new

-- an object has not ended, and there is room for all that may still come
pub record MayStrike {L : Type 0} (s : State L) (i : ℕ) (c : Control) : Type 0 where
  pub lives : has_ended (obj c.rows i).stage ≡ false
  pub room : (m : ℕ) → to_come c m ≤ (mail_at s.boxes m).spare

module _ {N O I : Type 0} (out_name : O → N) (in_name : I → N) where
  -- a socket whose holder is lent may strike its connects
  pub record StrikesWith (s : State (Load N O I)) (h : Holding N) (i : ℕ) : Type 0 where
    pub control : Control
    pub names : EndId → Option N
    pub stands : Stands s control
    pub has : HasAll names control h
    pub kept : Kept control
    pub lent : h.holds i ≡ true
    pub may : MayStrike s i control

  -- a connect was struck, with the holder: commands were put, and each object's list of ends is as before
  pub record IsStruck (names : EndId → Option N) (now : Control) (s t : State (Load N O I)) (k : Holding N) : Type 0 where
    pub stands : Stands t now
    pub has : HasAll names now k
    pub puts : PutsLoaded out_name in_name names s.boxes t.boxes
    pub ends : (i : ℕ) → (belongings_at t.objects.lists i).ends ≡ (belongings_at s.objects.lists i).ends

  -- the state was changed so with the holder, and commands were put
  pub record Led (names : EndId → Option N) (now : Control) (s t : State (Load N O I)) (k : Holding N) : Type 0 where
    pub stands : Stands t now
    pub has : HasAll names now k
    pub puts : PutsLoaded out_name in_name names s.boxes t.boxes
    pub lists : t.objects.lists ≡ s.objects.lists
