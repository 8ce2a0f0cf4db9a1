-- Which objects end in the items of a control run, in order (own choice, after libzmq's `own_t`).
use Rattle.std.specs.Prelude.{◌≡◌, ◌&&◌, ℕ, Bool, true, not, List, [], ◌∷◌, ◌++◌, flat_map, if◌then◌else◌, map, nat_lt}
use Rattle.std.specs.List.{AllByRecursion, list_any}
use Rattle.zq_base.specs.declared.ids.ObjId.{ObjId}
use Rattle.spec_control.specs.declared.entry.Did.{Did}
use Rattle.spec_control.specs.declared.entry.Item.{Item}
use Rattle.spec_control.specs.declared.entry.Item.TheVariants.{Event, Seen}
use Rattle.spec_control.specs.Stage.{has_ended}
use Rattle.spec_control.specs.Rows.{obj}
use Rattle.spec_control.specs.Control.{Control, begun, id, next_object}
use Rattle.spec_control.specs.ControlRun.{after_all, IsControlRun}
use Rattle.spec_control.specs.Moments.{left_by, moments_from}
use Rattle.run_laws.specs.EndOrder.{actor_of, is_numbered}
use Rattle.ctl_plane.specs.Enders.{enders_in}
use Rattle.ctl_plane.specs.Past.{as_item}

-- an object has not ended
abbrev pub is_living : Control → ℕ → Bool
is_living c i = not (has_ended (obj c.rows i).stage)

-- it ended between the two
abbrev pub just_ended : ℕ → (before after : Control) → List ObjId
just_ended i before after = if is_living before i && not (is_living after i) then id i ∷ [] else []

module _ {N S : Type 0} where
  -- the object of an event may end
  abbrev pub ended_in : Item N S → (before after : Control) → List ObjId
  ended_in (Event entry) before after = just_ended (actor_of entry.did) before after
  ended_in (Seen sight) before after = []

  -- and so in these items, from this state on
  abbrev pub ended_over : Control → List (Item N S) → List ObjId
  ended_over c items = flat_map (λ m. ended_in m.item m.found (left_by m)) (moments_from c items)

  -- the object of an event lives
  abbrev pub ActorLives : Control → Item N S → Type 0
  ActorLives c (Event entry) = is_living c (actor_of entry.did) ≡ true
  ActorLives c (Seen sight) = Unit {0}

pub record EndedGoesOn (N S : Type 0) : Type 0 where
  -- behind a control run the objects that end in further items stand behind those that ended before
  pub more : (workers : ℕ) (items more : List (Item N S)) → IsControlRun (begun workers) items → let c = after_all items (begun workers) in IsControlRun c more →
      (after_all more c).ended ≡ c.ended ++ ended_over c more
  -- where each of them that might have ended lives behind all of the items, none ended
  pub none : (workers : ℕ) (items more : List (Item N S)) → IsControlRun (begun workers) items → let c = after_all items (begun workers) in IsControlRun c more →
      AllByRecursion (ActorLives (after_all more c)) more → (after_all more c).ended ≡ c.ended

-- an object was made and has ended
abbrev pub is_over : Control → ℕ → Bool
is_over c i = nat_lt i (next_object c) && has_ended (obj c.rows i).stage

-- the object, where it is so
abbrev pub one_if : Bool → ObjId → List ObjId
one_if so o = if so then o ∷ [] else []

-- of these objects those of which it is so, each where it stands last
abbrev pub last_of : (ℕ → Bool) → List ObjId → List ObjId
last_of so [] = []
last_of so (o ∷ os) = if so o.0 && not (list_any (is_numbered o.0) os) then o ∷ last_of so os else last_of so os

-- of the objects that events of a control run may end those that have ended, each where it stands last, are the objects in the order of their ending
abbrev pub EndedAreTold : (N S : Type 0) → Type 0
EndedAreTold N S = (workers : ℕ) (events : List (Did N S)) → IsControlRun (begun workers) (map as_item events) → let c = after_all (map as_item events) (begun workers) in
    c.ended ≡ last_of (is_over c) (enders_in events)
