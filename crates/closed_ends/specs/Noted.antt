-- What was done to the pipes of the ends of closed sockets in a stretch of calls (own choice).
use Rattle.std.specs.Prelude.{◌≡◌, ◌++◌, ℕ, Bool, true, List, [], ◌∷◌, Some, All, is_some, length, map, if◌then◌else◌}
use Rattle.std.specs.List.{AllByRecursion, list_any}
use Rattle.zq_base.specs.declared.ids.EndId.{EndId}
use Rattle.spec_control.specs.Held.{Held}
use Rattle.spec_control.specs.Control.{is_end}
use Rattle.msg_pipe.specs.Known.{Known}
use Rattle.desk.specs.declared.given.Given.{Given}
use Rattle.end_table.specs.declared.changes.PipeChange.{PipeChange}
use Rattle.end_table.specs.declared.changes.PipeChange.TheVariants.{Kept, Made, Sealed, SealedAgain, Parted, Settled}
use Rattle.end_table.specs.declared.table.Place.{Place}
use Rattle.end_table.specs.Places.{held_of, place_at}
use Rattle.end_table.specs.Others.{KeepsPlaces}
use Rattle.end_table.specs.Changes.{sealing_of, sealings_in, DoesChange, DoesChanges}
use Rattle.sock_core.specs.Noted.{were_told, WereRead}
use Rattle.closed_ends.specs.declared.sockets.ClosedSockets.{ClosedSockets}
pub use Rattle.closed_ends.specs.Once.{StoodFirst, ChangesOnce}
use Rattle.closed_ends.specs.Finding.{place_given}
use Rattle.closed_ends.specs.Has.{all_ends}
use Rattle.closed_ends.specs.Mixed.{AreMixed}

-- a change of the pipe of an end, at another place
abbrev pub at_place : {O I : Type 0} → ℕ → PipeChange O I → PipeChange O I
at_place k Kept = Kept
at_place k (Made e capacity halves) = Made e capacity halves
at_place k (Sealed j e half) = Sealed k e half
at_place k (SealedAgain j e) = SealedAgain k e
at_place k (Parted j e half) = Parted k e half
at_place k (Settled j e) = Settled k e

-- changes as the reaper notes them, whose ends have no places
abbrev pub unplaced : {O I S : Type 0} → List (PipeChange O I × S) → List (PipeChange O I × S)
unplaced xs = map (λ x. (at_place 0 x.0, x.1)) xs

module _ {N I : Type 0} where
  -- the ends that stand at their places, and whether their writing halves are there
  abbrev pub standing_in : List (Place N I) → List (Held N × Bool)
  standing_in [] = []
  standing_in (p ∷ ps) = if p.held then (held_of p, p.writes) ∷ standing_in ps else standing_in ps

  -- those whose pipes have their delimiters
  abbrev pub sealed_ends : List (Place N I) → List EndId
  sealed_ends [] = []
  sealed_ends (p ∷ ps) = if p.sealed then p.end ∷ sealed_ends ps else sealed_ends ps

module _ {N O I : Type 0} (in_name : I → N) where
  -- an end, and whether its writing half is there
  abbrev pub standing_of : Given N O I → Held N × Bool
  standing_of g = (record { end = g.end; written = g.written; read = in_name g.input }, is_some g.out)

  -- the places of the ends with which a stretch began, and behind them of those that came since, as they were then
  abbrev pub first_places : ClosedSockets N O I → List (Place N I × Unit {0}) → List (Place N I)
  first_places from came = map (place_given in_name) (all_ends from.sockets.items) ++ map (λ x. x.0) came

-- Since a stretch of calls began with these pipes and ends these changes were made, each at the place of its end. The ends that the reaper has are those whose places are held still; each pipe that was settled was read by one that is held no more; and each end that is sealed came so or was to be sealed since.
pub record HasDoneTo {N O I S : Type 0} (K : Known S O I N) (first : S) (from : ClosedSockets N O I) (changes : List (PipeChange O I × S)) (now : S) (to : ClosedSockets N O I) : Type 0 where
  pub came : List (Place N I × Unit {0})
  pub came_are : to.came.items ≡ from.came.items ++ came
  pub told : List EndId
  pub told_are : map (λ x. x.0) to.sealed.items ≡ map (λ x. x.0) from.sealed.items ++ told
  pub settled : List (N × Unit {0})
  pub settled_are : to.settled.items ≡ from.settled.items ++ settled
  pub places : List (Place N I)
  pub count : length places ≡ length (first_places K.in_name from came)
  pub keeps : KeepsPlaces (first_places K.in_name from came) places
  pub standing : AreMixed (standing_in places) (map (standing_of K.in_name) (all_ends to.sockets.items))
  pub placed : List (PipeChange O I × S)
  pub noted : unplaced placed ≡ changes
  pub does : DoesChanges K places first placed now
  pub wrote : AllByRecursion (λ x. StoodFirst (first_places K.in_name from came) x.0) placed
  pub seals : told ≡ map (λ x. x.0) (sealings_in placed)
  pub again : were_told (sealed_ends (first_places K.in_name from came)) (sealings_in placed) ≡ true
  pub sealed : All (λ g. g.sealed ≡ true → list_any (is_end g.end) (sealed_ends (first_places K.in_name from came) ++ told) ≡ true) (all_ends to.sockets.items)
  pub read : WereRead places settled
