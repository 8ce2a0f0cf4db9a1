-- The places of a socket's ends over a control run (own choice, after libzmq's `pipe_t`).
use Rattle.std.specs.Prelude.{◌≡◌, ◌≢◌, ◌≤◌, ◌<◌, ℕ, Bool, true, false, List, Option, Some, length}
use Rattle.std.specs.List.{list_any}
use Rattle.zq_base.specs.declared.ids.EndId.{EndId}
use Rattle.zq_base.specs.Ends.{PipeId, other_end}
use Rattle.spec_control.specs.declared.end.EndState.TheVariants.{Gone}
use Rattle.spec_control.specs.declared.entry.Item.{Item}
use Rattle.spec_control.specs.Place.{At}
use Rattle.spec_control.specs.Control.{Control, begun, ends_of, is_end, place_of}
use Rattle.spec_control.specs.ControlRun.{IsControlRun, after_all}
use Rattle.desk.specs.Holding.{Holding}
use Rattle.desk.specs.Lent.{HasEnds}
use Rattle.end_table.specs.declared.table.Place.{Place}
use Rattle.end_table.specs.Others.{KeepsPlaces}
use Rattle.end_table.specs.Places.{place_at, held_in, writes_in}
use Rattle.socket_laws.specs.Ends.{AreHeldFor, PlacesGoOn}

-- the end is one that the object has or had
abbrev pub is_end_of : ℕ → Control → EndId → Bool
is_end_of o c e = list_any (is_end e) (ends_of o c)

-- pipes keep their names
abbrev pub Keeps : {N : Type 0} → (names said : PipeId → Option N) → Type 0
Keeps {N} names said = (p : PipeId) (n : N) → names p ≡ Some n → said p ≡ Some n

module _ {N I : Type 0} where
  -- the place is of an end that the object has or had, of a pair that was made, with the names of its pipes; if it is held no more, the end is gone
  pub record IsOwnPlace (c : Control) (names : PipeId → Option N) (o : ℕ) (p : Place N I) : Type 0 where
    pub its : is_end_of o c p.end ≡ true
    pub written : names p.end ≡ Some p.written
    pub read : names (other_end p.end) ≡ Some p.read
    pub above : 0 < p.end.pair.0
    pub gone : p.held ≡ false → place_of c p.end ≡ At Gone

  -- no end is held at two of these places
  abbrev pub AreHeldOnce : List (Place N I) → Type 0
  AreHeldOnce ps = (j k : ℕ) (p q : Place N I) → j ≢ k → place_at ps j ≡ Some p → place_at ps k ≡ Some q → p.held ≡ true → q.held ≡ true → p.end ≢ q.end

  -- a holder has an object's ends at these places
  pub record HasPlaces (h : Holding N) (o : ℕ) (ps : List (Place N I)) : Type 0 where
    pub ends : h.ends o ≡ held_in ps
    pub writes : (e : EndId) → h.writes e ≡ writes_in ps e

  -- an object's ends are held at these places before and at those behind, each at its place still; no end was held at two, and what is held at places that came since it did not have
  pub record AreItsPlaces (c now : Control) (names said : PipeId → Option N) (o : ℕ) (had has : Holding N) (was ps : List (Place N I)) : Type 0 where
    pub names_stay : Keeps names said
    pub had_ends : HasEnds names c.rows.pairs c.attached c.reasons had o
    pub has_ends : HasEnds said now.rows.pairs now.attached now.reasons has o
    pub had_places : HasPlaces had o was
    pub has_places : HasPlaces has o ps
    pub keeps : KeepsPlaces was ps
    pub once : AreHeldOnce was
    pub others : (k : ℕ) (p : Place N I) → length was ≤ k → place_at ps k ≡ Some p → p.held ≡ true → is_end_of o c p.end ≡ false

  -- an end was held at this place before, or is held there, where it came since
  pub record WasOrIsHeld (was : List (Place N I)) (k : ℕ) (q : Place N I) : Type 0 where
    pub stood : (p : Place N I) → place_at was k ≡ Some p → p.held ≡ true
    pub came : length was ≤ k → q.held ≡ true

-- the ends that are held at the places of an object are its, each where it is
abbrev pub PlacesAreHeld : (N S I : Type 0) → Type 0
PlacesAreHeld N S I = (io : ℕ) (items : List (Item N S)) → IsControlRun (begun io) items → let c = after_all items (begun io) in
    (names : PipeId → Option N) (o : ℕ) (h : Holding N) → HasEnds names c.rows.pairs c.attached c.reasons h o → (ps : List (Place N I)) → HasPlaces h o ps → AreHeldFor c names o ps

-- over a control run each place at which an end of the object was held, or came to be, is of an end that it has or had
abbrev pub OwnPlacesStay : (N S I : Type 0) → Type 0
OwnPlacesStay N S I = (io : ℕ) (items more : List (Item N S)) → IsControlRun (begun io) items → IsControlRun (after_all items (begun io)) more →
    let c = after_all items (begun io) in
    let now = after_all more c in
    (names said : PipeId → Option N) (o : ℕ) (had has : Holding N) (was ps : List (Place N I)) → AreItsPlaces c now names said o had has was ps →
    (k : ℕ) (q : Place N I) → place_at ps k ≡ Some q → WasOrIsHeld was k q → IsOwnPlace now said o q

-- and the ends at them go on from where they were
abbrev pub OwnPlacesGoOn : (N S I : Type 0) → Type 0
OwnPlacesGoOn N S I = (io : ℕ) (items more : List (Item N S)) → IsControlRun (begun io) items → IsControlRun (after_all items (begun io)) more →
    let c = after_all items (begun io) in
    let now = after_all more c in
    (names said : PipeId → Option N) (o : ℕ) (had has : Holding N) (was ps : List (Place N I)) → AreItsPlaces c now names said o had has was ps →
    PlacesGoOn c now was ps
