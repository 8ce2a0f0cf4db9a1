-- Where the ends at a socket's places are, before a call and behind it (own choice, after libzmq's `pipe_t`).
use Rattle.std.specs.Prelude.{◌≡◌, ◌≤◌, ◌<◌, ℕ, Bool, true, false, List, Option, Some, length}
use Rattle.zq_base.specs.Ends.{PipeId, other_end}
use Rattle.spec_control.specs.declared.end.EndState.TheVariants.{Gone}
use Rattle.spec_control.specs.Place.{Place as Where, Unmade, Away, At, is_here}
use Rattle.spec_control.specs.Control.{Control, next_pair, owner_of, place_of}
use Rattle.desk.specs.Lent.{has_writer}
use Rattle.end_table.specs.declared.table.Place.{Place}
use Rattle.end_table.specs.Places.{place_at}

-- an end was not attached yet
abbrev pub is_new : Where → Bool
is_new Unmade = true
is_new Away = true
is_new (At state) = false

-- an end that a socket has is there, and where its writing half is there it was not asked to give it away
pub record IsHeldWhere {N I : Type 0} (c : Control) (p : Place N I) : Type 0 where
  pub here : is_here (place_of c p.end) ≡ true
  pub writes : p.writes ≡ true → has_writer (place_of c p.end) ≡ true

-- it is one of this object, with the names of its pipes
pub record IsHeldFor {N I : Type 0} (c : Control) (names : PipeId → Option N) (o : ℕ) (p : Place N I) : Type 0 where
  pub at : IsHeldWhere c p
  pub written : names p.end ≡ Some p.written
  pub read : names (other_end p.end) ≡ Some p.read
  pub owner : owner_of c p.end ≡ o

-- so is each that is held at these places
abbrev pub AreHeldFor : {N I : Type 0} → Control → (PipeId → Option N) → ℕ → List (Place N I) → Type 0
AreHeldFor {N} {I} c names o ps = (k : ℕ) (p : Place N I) → place_at ps k ≡ Some p → p.held ≡ true → IsHeldFor c names o p

-- an end that a socket has no more, of a pair that has its number, is gone
pub record IsGoneFrom {N I : Type 0} (now : Control) (p : Place N I) : Type 0 where
  pub above : 0 < p.end.pair.0
  pub numbered : p.end.pair.0 < next_pair now
  pub gone : place_of now p.end ≡ At Gone

-- The places of a socket's ends behind a call: each end has its place still, those that are held at places that came since were not attached before, and one that was held and is held no more is gone.
pub record PlacesGoOn {N I : Type 0} (c now : Control) (was ps : List (Place N I)) : Type 0 where
  pub held : (k : ℕ) (p : Place N I) → place_at was k ≡ Some p → p.held ≡ true → IsHeldWhere c p
  pub stay : (k : ℕ) (p q : Place N I) → place_at was k ≡ Some p → place_at ps k ≡ Some q → q.end ≡ p.end
  pub came : (k : ℕ) (q : Place N I) → length was ≤ k → place_at ps k ≡ Some q → q.held ≡ true → q.end.pair.0 < next_pair c → is_new (place_of c q.end) ≡ true
  pub gone : (k : ℕ) (p q : Place N I) → place_at was k ≡ Some p → p.held ≡ true → place_at ps k ≡ Some q → q.held ≡ false → IsGoneFrom now q
