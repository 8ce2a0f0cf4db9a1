-- What a call of the reaper on the control plane leaves of the steps past, by its items and by what it did to the pipes of closed sockets (own choice, after libzmq's `reaper_t`).
use Rattle.std.specs.Prelude.{◌≡◌, ◌<◌, ◌++◌, ℕ, List, Option, Some, drop, flat_map, length, map}
use Rattle.std.specs.List.{AllByRecursion}
use Rattle.zq_base.specs.declared.ids.EndId.{EndId}
use Rattle.zq_base.specs.Ends.{PipeId}
use Rattle.msg_pipe.specs.Known.{Known}
use Rattle.spec_pattern.specs.PipeStep.{PipeStep}
use Rattle.spec_control.specs.declared.entry.Item.{Item}
use Rattle.spec_control.specs.Control.{Control, begun, next_pair}
use Rattle.spec_control.specs.ControlRun.{after_all, IsControlRun}
use Rattle.spec_control.specs.Moments.{Moment, moments_from}
use Rattle.spec_run.specs.Act.{steps_in}
use Rattle.spec_run.specs.Event.{acts_said}
use Rattle.end_table.specs.declared.changes.PipeChange.{PipeChange}
use Rattle.end_table.specs.declared.table.Place.{Place}
use Rattle.socket_laws.specs.Standing.{PastStands}
use Rattle.socket_laws.specs.Changes.{IsOfPipes, ArePlacesNamed}
use Rattle.socket_laws.specs.Said.{sealed_with}
use Rattle.socket_laws.specs.Asked.{WereAsked}
use Rattle.closed_ends.specs.declared.sockets.ClosedSockets.{ClosedSockets}
use Rattle.closed_ends.specs.Noted.{sealed_ends, first_places, HasDoneTo}

module _ {N O I : Type 0} where
  -- the ends that came since, and those whose pipes were to be sealed since
  abbrev pub came_since : (from to : ClosedSockets N O I) → List (Place N I × Unit {0})
  came_since from to = drop (length from.came.items) to.came.items

  abbrev pub told_since : (from to : ClosedSockets N O I) → List EndId
  told_since from to = drop (length from.sealed.items) (map (λ x. x.0) to.sealed.items)

module _ {S O I N : Type 0} (K : Known S O I N) where
  -- calls of the reaper, from one control state to another: the pipes of the ends that it had or that came go by their names, each change is of such a pipe, and it was told to seal just what their moments tell
  pub record ReaperChanges {T : Type 0} (c now : Control) (names said : PipeId → Option N) (ms : List (Moment N T)) (from to : ClosedSockets N O I) (old new : S) : Type 0 where
    pub names_same : (p : PipeId) → said p ≡ names p
    pub names_made : (p : PipeId) (n : N) → names p ≡ Some n → p.pair.0 < next_pair c
    pub changes : List (PipeChange O I × S)
    pub done : ∥ HasDoneTo K old from changes new to ∥₁
    pub named : ArePlacesNamed names (first_places K.in_name from (came_since from to))
    pub of_pipes : AllByRecursion (λ x. IsOfPipes c now x.0) changes
    pub grown : told_since from to ≡ sealed_with ms

  -- behind them the steps past stand with those of their items, where each end that was sealed before was asked; and each that was told to be sealed was
  abbrev pub ReaperCallsGoOn : (T : Type 0) → Type 0
  ReaperCallsGoOn T = (io : ℕ) (items more : List (Item N T)) → IsControlRun (begun io) items → IsControlRun (after_all items (begun io)) more →
      let c = after_all items (begun io) in
      let now = after_all more c in
      let ms = moments_from c more in
      (names said : PipeId → Option N) (from to : ClosedSockets N O I) (old new : S) (past : List PipeStep) →
      ReaperChanges c now names said ms from to old new →
      let sealed = sealed_ends (first_places K.in_name from (came_since from to)) in
      WereAsked c sealed → PastStands K c names old past →
      PastStands K now said new (past ++ steps_in (flat_map acts_said ms)) × WereAsked now (sealed ++ sealed_with ms)
