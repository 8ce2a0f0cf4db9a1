-- What the calls of one owner of ends leave to the owners of other ends, whose pipes stand in the same table (own choice).
use Rattle.std.specs.Prelude.{◌≡◌, ◌≤◌, ◌&&◌, ℕ, zero, suc, Bool, true, false, List, [], ◌∷◌, Some, All, length}
use Rattle.msg_pipe.specs.Known.{Known, IsThere, IsElse}
use Rattle.end_table.specs.Rows.{Rows, Table}
use Rattle.end_table.specs.Runs.{DoesAll, seals}
use Rattle.spec_pattern.specs.PipeStep.{PipeStep}
use Rattle.desk.specs.declared.halves.Halves.{Halves}
use Rattle.end_table.specs.declared.table.Place.{Place}
use Rattle.end_table.specs.declared.table.EndTable.{EndTable}
use Rattle.end_table.specs.Places.{place_at}
use Rattle.end_table.specs.Sound.{IsSound, IsElseOf, Fits}

module _ {N I : Type 0} where
  -- an end was held at this place, or came to it since
  abbrev pub had_at : List (Place N I) → ℕ → Bool
  had_at [] k = true
  had_at (p ∷ ps) zero = p.held
  had_at (p ∷ ps) (suc k) = had_at ps k

  -- with its writing half
  abbrev pub wrote_at : List (Place N I) → ℕ → Bool
  wrote_at [] k = true
  wrote_at (p ∷ ps) zero = p.held && p.writes
  wrote_at (p ∷ ps) (suc k) = wrote_at ps k

  -- the place of the same end, of which no more is there
  pub record IsLess (p q : Place N I) : Type 0 where
    pub end_is : q.end ≡ p.end
    pub written_is : q.written ≡ p.written
    pub read_is : q.read ≡ p.read
    pub held : q.held ≡ true → p.held ≡ true
    pub writes : q.writes ≡ true → p.writes ≡ true

  -- each end has its place still, and what went does not come back
  pub record KeepsPlaces (from to : List (Place N I)) : Type 0 where
    pub count : length from ≤ length to
    pub each : (k : ℕ) (p q : Place N I) → place_at from k ≡ Some p → place_at to k ≡ Some q → IsLess p q

module _ {S O I N : Type 0} (K : Known S O I N) where
  -- a pipe of another name than those that the owner's ends wrote at the beginning or came to write since
  abbrev pub IsNoneWritten : (from to : EndTable N O I) → N → Type 0
  IsNoneWritten from to n = (k : ℕ) (q : Place N I) → place_at to.places.items k ≡ Some q → wrote_at from.places.items k ≡ true → IsElse K n q.written

  -- or read
  abbrev pub IsNoneRead : (from to : EndTable N O I) → N → Type 0
  IsNoneRead from to n = (k : ℕ) (q : Place N I) → place_at to.places.items k ≡ Some q → had_at from.places.items k ≡ true → IsElse K n q.read

  -- than those that it settled
  abbrev pub IsUnsettled : EndTable N O I → N → Type 0
  IsUnsettled t n = All (λ x. IsElse K n x.0) t.settled.items

  -- Calls of one owner, from one state of its ends to another, leave the pipes that are not its own: those that it did not settle are there, and what is known of halves that are not of its ends' pipes is as it was.
  pub record Leaves (old : S) (from : EndTable N O I) (new : S) (to : EndTable N O I) : Type 0 where
    pub written : (n : N) → IsUnsettled to n → IsThere K old n → IsThere K new n
    pub read : (n : N) → IsNoneRead from to n → IsThere K old n → IsThere K new n
    pub outs : (h : O) → IsThere K old (K.out_name h) → IsNoneWritten from to (K.out_name h) → IsUnsettled to (K.out_name h) → K.writing new h ≡ K.writing old h
    pub ins : (h : I) → IsThere K old (K.in_name h) → IsNoneRead from to (K.in_name h) → K.reading new h ≡ K.reading old h
    pub places : KeepsPlaces from.places.items to.places.items
    pub settled : (n : N) → IsUnsettled to n → IsUnsettled from n

  -- the halves of an end of another owner are of other pipes
  pub record IsApartFrom (from to : EndTable N O I) (p : Place N I) : Type 0 where
    pub outs : p.writes ≡ true → IsNoneWritten from to p.written
    pub unsettled : p.writes ≡ true → IsUnsettled to p.written
    pub ins : IsNoneRead from to p.read

  -- another owner's ends, whose halves are of other pipes, stay sound
  abbrev pub LeavesSound : Type 0
  LeavesSound = (old new : S) (from to : EndTable N O I) (rows : Rows O I) (places : List (Place N I)) →
      Leaves old from new to → ((k : ℕ) (p : Place N I) → place_at places k ≡ Some p → p.held ≡ true → IsApartFrom from to p) →
      IsSound K old rows places → IsSound K new rows places

  -- halves on their way are of other pipes
  pub record AreElseFrom (from to : EndTable N O I) (h : Halves O I) : Type 0 where
    pub outs : IsNoneWritten from to (K.out_name h.out)
    pub unsettled : IsUnsettled to (K.out_name h.out)
    pub ins : IsNoneRead from to (K.in_name h.input)

  -- and may join the ends that they might have joined, as long as those have other pipes than they
  abbrev pub LeavesFitting : Type 0
  LeavesFitting = (old new : S) (from to : EndTable N O I) (before now : List (Place N I)) (h : Halves O I) →
      Leaves old from new to → AreElseFrom from to h → ((k : ℕ) (p : Place N I) → place_at now k ≡ Some p → p.held ≡ true → IsElseOf K p h) →
      Fits K old before h → Fits K new now h

  -- one stretch of calls behind another is one
  abbrev pub LeavesOn : Type 0
  LeavesOn = (old mid new : S) (from then to : EndTable N O I) → Leaves old from mid then → Leaves mid then new to → Leaves old from new to

  -- calls that seal no pipe, at the owner's ends, whose places stay
  abbrev pub LeavesBySteps : Type 0
  LeavesBySteps = (steps : List PipeStep) (old new : Table S O I) (from to : EndTable N O I) →
      DoesAll K old steps new → seals steps ≡ false → IsSound K old.pipes old.rows from.places.items →
      to.places.items ≡ from.places.items → to.settled.items ≡ from.settled.items → Leaves old.pipes from new.pipes to
