-- What the reaper did to the pipes of closed sockets' ends was done to such as may be, by where the ends were (own choice, after libzmq's `reaper_t`).
use Rattle.std.specs.Prelude.{◌≡◌, ◌≤◌, ◌<◌, ◌++◌, ℕ, true, false, List, Some, length}
use Rattle.std.specs.List.{AllByRecursion, list_any}
use Rattle.msg_pipe.specs.Known.{Known}
use Rattle.spec_control.specs.declared.entry.Item.{Item}
use Rattle.spec_control.specs.Control.{Control, begun, next_pair, place_of}
use Rattle.spec_control.specs.ControlRun.{after_all, IsControlRun}
use Rattle.spec_control.specs.Moments.{moments_from}
use Rattle.end_table.specs.declared.changes.PipeChange.{PipeChange}
use Rattle.end_table.specs.declared.table.Place.{Place}
use Rattle.end_table.specs.Places.{place_at}
use Rattle.socket_laws.specs.Changes.{IsOfPipes}
use Rattle.socket_laws.specs.Ends.{IsHeldWhere, IsGoneFrom, is_new}
use Rattle.socket_laws.specs.Said.{sealed_with}
use Rattle.closed_ends.specs.declared.sockets.ClosedSockets.{ClosedSockets}
use Rattle.closed_ends.specs.Has.{all_ends, is_of}
use Rattle.closed_ends.specs.Noted.{first_places, HasDoneTo}
use Rattle.core_laws.specs.ReaperCalls.{came_since, told_since}

-- the ends that the reaper had or that came are two by two different; those that it had or that closed sockets brought are each where such an end may be, those that joined since were not attached before and stand still, and each that it has no more is gone
pub record EndsGoOn {N O I : Type 0} (in_name : I → N) (c now : Control) (from to : ClosedSockets N O I) : Type 0 where
  pub different : (j k : ℕ) (p q : Place N I) → place_at (first_places in_name from (came_since from to)) j ≡ Some p → place_at (first_places in_name from (came_since from to)) k ≡ Some q → p.end ≡ q.end → j ≡ k
  pub was : List (Place N I)
  pub since : List (Place N I)
  pub are : first_places in_name from (came_since from to) ≡ was ++ since
  pub held : (k : ℕ) (p : Place N I) → place_at was k ≡ Some p → IsHeldWhere c p
  pub new : (k : ℕ) (p : Place N I) → place_at since k ≡ Some p → p.end.pair.0 < next_pair c → is_new (place_of c p.end) ≡ true
  pub stand : (k : ℕ) (p : Place N I) → place_at since k ≡ Some p → list_any (is_of p.end) (all_ends to.sockets.items) ≡ true
  pub gone : (k : ℕ) (p : Place N I) → place_at (first_places in_name from (came_since from to)) k ≡ Some p → list_any (is_of p.end) (all_ends to.sockets.items) ≡ false → IsGoneFrom now p

-- so, over one item at the most, each change was of such a pipe
abbrev pub ReaperChangesAreOfPipes : {S O I N : Type 0} → Known S O I N → (T : Type 0) → Type 0
ReaperChangesAreOfPipes {S} {O} {I} {N} K T = (io : ℕ) (items more : List (Item N T)) → IsControlRun (begun io) items → IsControlRun (after_all items (begun io)) more → length more ≤ 1 →
    let c = after_all items (begun io) in
    let now = after_all more c in
    (from to : ClosedSockets N O I) (old new : S) (changes : List (PipeChange O I × S)) →
    EndsGoOn K.in_name c now from to → ∥ HasDoneTo K old from changes new to ∥₁ → told_since from to ≡ sealed_with (moments_from c more) →
    AllByRecursion (λ x. IsOfPipes c now x.0) changes
