-- Calls of one object in the one order of a context, and what their callers' moments say of the others (own choice).
use Rattle.std.specs.Prelude.{◌≡◌, ◌++◌, ℕ, List, All}
use Rattle.spec_control.specs.Held.{ends_after}
use Rattle.spec_control.specs.Has.{has_after}
use Rattle.spec_control.specs.Moments.{Moment, items_in, left_after}
use Rattle.spec_control.specs.OwnAsks.{known_after}
use Rattle.desk.specs.Kinds.{kind_after}
use Rattle.socket_laws.specs.Open.{IsOfItem}
use Rattle.plain_desk.specs.Lent.{GrowsBy, IsOneOrder, Lent, moments_of}

module _ {N S : Type 0} where
  -- they say the same of an object: who has it, its ends and where they were left, its kind, and what its caller knows of it
  pub record SaySame (u : ℕ) (was now : List (Moment N S)) : Type 0 where
    pub has : has_after u (items_in now) ≡ has_after u (items_in was)
    pub ends : ends_after u (items_in now) ≡ ends_after u (items_in was)
    pub kind : kind_after u (items_in now) ≡ kind_after u (items_in was)
    pub knows : known_after u (items_in now) ≡ known_after u (items_in was)
    pub left : left_after u now ≡ left_after u was

module _ {G N S : Type 0} where
  -- the same order, lent to this caller
  abbrev pub for_caller : ℕ → Lent G N S → Lent G N S
  for_caller k d = record d { caller = k }

  -- calls of the caller led from one state of the order to the other, by these moments, each of this object
  pub record AreCallsOn (o : ℕ) (old new : Lent G N S) : Type 0 where
    pub before : IsOneOrder old
    pub behind : IsOneOrder new
    pub grows : GrowsBy old new
    pub more : List (Moment N S)
    pub moments : moments_of new ≡ moments_of old ++ more
    pub each : All (λ m. IsOfItem o m.found m.item) more
