-- The reaper takes a closed socket over with its ends (own choice, after libzmq's `reaper_t`).
use Rattle.std.specs.Prelude.{◌≡◌, ◌<◌, ℕ, true, false, Option, Some}
use Rattle.zq_base.specs.declared.ids.EndId.{EndId}
use Rattle.spec_control.specs.declared.letter.Word.TheVariants.{Term}
use Rattle.spec_control.specs.Row.{ReapComes, link_may}
use Rattle.spec_control.specs.Rows.{obj}
use Rattle.spec_control.specs.Stage.{has_ended}
use Rattle.spec_control.specs.Control.{Control, link, put}
use Rattle.desk.specs.declared.given.Parting.{Parting}
use Rattle.desk.specs.declared.load.Load.{Load}
use Rattle.desk.specs.Holding.{Holding}
use Rattle.desk.specs.Joins.{KeepsObjects}
use Rattle.desk.specs.Lent.{HasAll}
use Rattle.desk.specs.Turns.{HasTurned}
use Rattle.desk.specs.Load.{AreEndsOfClosed, GivesAll}
use Rattle.ctl_state.specs.declared.state.State.{State}
use Rattle.ctl_state.specs.Boxes.{mail_at}
use Rattle.ctl_state.specs.Stands.{Stands}
use Rattle.ctl_moves.specs.Turning.{PutsLoaded}

module _ {N O I : Type 0} (out_name : O → N) (in_name : I → N) where
  -- a Reap may come to the root with all ends of its socket, which nobody has, with room for the socket's Term
  pub record ReapsAt (names : EndId → Option N) (c : Control) (s : State (Load N O I)) (h : Holding N) (socket : ℕ) (parting : Parting N O I) : Type 0 where
    pub comes : link_may ReapComes (obj c.rows socket) ≡ true
    pub owner : (obj c.rows socket).owner ≡ Some 0
    pub root : has_ended (obj c.rows 0).stage ≡ false
    pub free : h.holds socket ≡ false
    pub ends : AreEndsOfClosed out_name in_name names parting
    pub all : GivesAll c socket parting
    pub room : 0 < (mail_at s.boxes (obj c.rows socket).slot).spare

  -- and the reaper's holder has what the control state says
  pub record MayReap (s : State (Load N O I)) (h : Holding N) (socket : ℕ) (parting : Parting N O I) : Type 0 where
    pub control : Control
    pub names : EndId → Option N
    pub stands : Stands s control
    pub has : HasAll names control h
    pub reaps : ReapsAt names control s h socket parting

  -- the socket is told, and its ends are the reaper's, each as far as it was; they joined before, and its other objects are as before
  pub record TakesOver (names : EndId → Option N) (c : Control) (socket : ℕ) (s t : State (Load N O I)) (h k : Holding N) : Type 0 where
    pub stands : Stands t (put socket Term (link ReapComes socket c))
    pub has : HasAll names (put socket Term (link ReapComes socket c)) k
    pub puts : PutsLoaded out_name in_name names s.boxes t.boxes
    pub lists : t.objects.lists ≡ s.objects.lists
    pub turned : HasTurned c (put socket Term (link ReapComes socket c)) h k
    pub joined : k.joined ≡ h.joined
    pub objects : KeepsObjects c (put socket Term (link ReapComes socket c)) h k
