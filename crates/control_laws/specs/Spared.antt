-- What an event of one object leaves of the ends of another (own choice, after libzmq's `pipe_t`).
use Rattle.std.specs.Prelude.{◌≡◌, ◌≢◌, ◌<◌, ◌≤◌, ℕ, List, Option, Some, All}
use Rattle.zq_base.specs.declared.ids.EndId.{EndId}
use Rattle.spec_control.specs.declared.entry.Did.{Did}
use Rattle.spec_control.specs.declared.entry.Did.TheVariants.{Asked, Delivered, Delimited}
use Rattle.spec_control.specs.declared.entry.Item.{Item}
use Rattle.spec_control.specs.Place.{Place, Unmade, Away, At}
use Rattle.spec_control.specs.Control.{Control, begun, next_pair, owner_of, place_of, ends_of}
use Rattle.spec_control.specs.After.{after}
use Rattle.spec_control.specs.ControlRun.{Fits, after_all, IsControlRun}
use Rattle.spec_control.specs.Has.{acts_in_request}

-- where an end is, whether or not its bind was put yet
abbrev pub shown : Place → Place
shown Unmade = Away
shown Away = Away
shown (At state) = At state

-- each attached end is one of a pair
abbrev pub Known : Control → Type 0
Known c = All (λ e. e.pair.0 < next_pair c) c.attached

-- the ends of this object are as before, and each attached end is one of a pair
pub record Spared (i : ℕ) (c d : Control) : Type 0 where
  pub grows : next_pair c ≤ next_pair d
  pub owners : (e : EndId) → e.pair.0 < next_pair c → owner_of d e ≡ owner_of c e
  pub places : (e : EndId) → e.pair.0 < next_pair c → owner_of c e ≡ i → shown (place_of d e) ≡ shown (place_of c e)
  pub reasons : (e : EndId) → e.pair.0 < next_pair c → owner_of c e ≡ i → d.reasons e ≡ c.reasons e
  pub attached : ends_of i d ≡ ends_of i c
  pub known : Known d

-- the object whose ends an event may change: who asks, who gets the command, whose end meets a delimiter
abbrev pub touched_in : {N S : Type 0} → Control → Did N S → Option ℕ
touched_in c (Asked req reply h) = acts_in_request c req
touched_in c (Delivered slot letter h) = Some letter.to.0
touched_in c (Delimited e h) = Some (owner_of c e)

-- in each control run, each event leaves the ends of the others
abbrev pub OtherEndsStay : (N S : Type 0) → Type 0
OtherEndsStay N S = (workers : ℕ) (items : List (Item N S)) → IsControlRun (begun workers) items →
    let c = after_all items (begun workers) in (did : Did N S) → Fits c did → (i : ℕ) → touched_in c did ≢ Some i → Spared i c (after did c)
