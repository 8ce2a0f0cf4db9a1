-- What the calls need of what is kept, read off the control state that it stands for.
use Rattle.std.specs.Prelude.{◌≡◌, ◌≢◌, ◌<◌, ◌+◌, ◌^◌, ℕ, true, false, Some, length, ◌≤◌, ◌&&◌, ◌==◌, Bool, cond, sum_by}
use Rattle.zq_base.specs.declared.ids.EndId.{EndId}
use Rattle.zq_base.specs.declared.ids.ObjId.{ObjId}
use Rattle.spec_control.specs.declared.end.EndEvent.{EndEvent}
use Rattle.spec_control.specs.declared.end.EndState.{EndState}
use Rattle.spec_control.specs.declared.object.ObjState.TheVariants.{Ended}
use Rattle.spec_control.specs.EndLife.{comes}
use Rattle.spec_control.specs.Place.{Unmade as IsUnmade, Away as IsAway, At as IsAt, is_here}
use Rattle.spec_control.specs.Row.{owner_fits, Row}
use Rattle.spec_control.specs.Rows.{obj}
use Rattle.spec_control.specs.Stage.{has_ended}
use Rattle.spec_control.specs.Control.{Control, place_of}
use Rattle.own_tree.specs.Rows.{state_at, children_of, tree_of}
use Rattle.ctl_state.specs.declared.pair.Spot.TheVariants.{Unmade, Away}
use Rattle.ctl_state.specs.declared.state.State.{State}
use Rattle.ctl_state.specs.Objects.{tree_row, RootOwnsSockets, kept_row}
use Rattle.ctl_state.specs.Pairs.{owner_at, spot_at, spot_comes}
use Rattle.ctl_state.specs.Boxes.{mail_at}
use Rattle.ctl_state.specs.Children.{HaveRoom}

-- of an object: its row, that it has not ended, whose it is, and that one more end or bind can be counted for it;
-- of an end: that an event may come to it, where it is, and that it counts for its owner; that there is room
-- for the commands of an object's children where there is for those of all objects; that each object has its lists; and that the root
-- owns the sockets
pub record AreMet {L : Type 0} (s : State L) (c : Control) : Type 0 where
  pub unended : (i : ObjId) → has_ended (obj c.rows i.0).stage ≡ false → state_at s.objects.tree i ≢ Ended
  pub owned : (i : ℕ) (w : ObjId) → (obj c.rows i).owner ≡ Some w.0 → (tree_row s.objects i).owner ≡ Some w
  pub row : (i : ℕ) → obj c.rows i ≡ kept_row s.objects i
  pub may_come : (e : EndId) (event : EndEvent) (state : EndState) → place_of c e ≡ IsAt state → comes event state ≡ true →
      spot_comes event (spot_at s.pairs e) ≡ true
  pub away : (e : EndId) → place_of c e ≡ IsAway → spot_at s.pairs e ≡ Away
  pub unmade : (e : EndId) → place_of c e ≡ IsUnmade → spot_at s.pairs e ≡ Unmade
  pub binds : (e : EndId) → e.pair.0 < length c.rows.pairs → place_of c e ≡ IsAway → 0 < (tree_row s.objects (owner_at s.pairs e).0).binds
  pub ends : (e : EndId) → e.pair.0 < length c.rows.pairs → is_here (place_of c e) ≡ true → 0 < (tree_row s.objects (owner_at s.pairs e).0).ends
  pub ends_fit : (i : ℕ) → length c.rows.pairs < 2 ^ 30 → (tree_row s.objects i).ends + 1 < 2 ^ 32
  pub sent_fits : (i : ℕ) → length c.rows.objects < 2 ^ 62 → length c.rows.pairs < 2 ^ 62 → (tree_row s.objects i).sent + 1 < 2 ^ 64
  pub children : (test : Row → Bool) (owner : ObjId) → ((k : ℕ) → sum_by (λ o. cond (test o && o.slot == k) 1 0) c.rows.objects ≤ (mail_at s.boxes k).spare) →
      HaveRoom test s (children_of (tree_of s.objects.tree) owner)
  pub listed : (i : ℕ) → i < length c.rows.objects → i < length s.objects.lists
  pub sockets : ((i : ℕ) → owner_fits (obj c.rows i).kind (obj c.rows i).owner ≡ true) → RootOwnsSockets s.objects
