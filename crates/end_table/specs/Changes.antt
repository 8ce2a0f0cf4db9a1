-- What the calls of an owner of ends did to the pipes, one change after the other (own choice, after libzmq's `pipe_t`).
use Rattle.std.specs.Prelude.{◌≡◌, ◌<◌, ◌++◌, ℕ, Bool, true, false, List, [], ◌∷◌, Option, Some, None, length, not, if◌then◌else◌}
use Rattle.std.specs.Option.{option_or}
use Rattle.zq_base.specs.Ends.{other_end}
use Rattle.zq_base.specs.declared.ids.EndId.{EndId}
use Rattle.spec_control.specs.Control.{is_end}
use Rattle.zq_base.specs.declared.log.Log.{Log}
use Rattle.spec_pattern.specs.Half.{with_delimiter, without_parts}
use Rattle.msg_pipe.specs.Known.{Known, IsThere, KeepsAll, KeepsButOut, KeepsButPipe, MakesPipe}
use Rattle.end_table.specs.declared.changes.PipeChange.{PipeChange}
use Rattle.end_table.specs.declared.changes.PipeChange.TheVariants.{Kept, Made, Sealed, SealedAgain, Parted, Settled}
use Rattle.end_table.specs.declared.table.Place.{Place}
use Rattle.end_table.specs.Places.{place_at}

-- the end whose pipe was to be sealed, and whether it was not sealed before
abbrev pub sealing_of : {O I : Type 0} → PipeChange O I → List (EndId × Bool)
sealing_of Kept = []
sealing_of (Made e capacity halves) = []
sealing_of (Sealed k e half) = (e, true) ∷ []
sealing_of (SealedAgain k e) = (e, false) ∷ []
sealing_of (Parted k e half) = []
sealing_of (Settled k e) = []

-- of all these changes, in order
abbrev pub sealings_in : {O I S : Type 0} → List (PipeChange O I × S) → List (EndId × Bool)
sealings_in [] = []
sealings_in (x ∷ xs) = sealing_of x.0 ++ sealings_in xs

-- of the end at a place
abbrev pub sealing_at : {N I : Type 0} → Option (Place N I) → List (EndId × Bool)
sealing_at None = []
sealing_at (Some p) = (p.end, not p.sealed) ∷ []

-- how many messages a pipe holds that was made with these halves, and its writing half
abbrev pub made_with : {O I : Type 0} → ℕ → List (O × I) → Option (ℕ × O)
made_with capacity [] = None
made_with capacity (x ∷ xs) = Some (capacity, x.0)

-- of the pipe that was made for an end to write
abbrev pub made_by : {O I : Type 0} → EndId → PipeChange O I → Option (ℕ × O)
made_by e Kept = None
made_by e (Made f capacity halves) = if is_end f e then made_with capacity halves.items else None
made_by e (Sealed k f half) = None
made_by e (SealedAgain k f) = None
made_by e (Parted k f half) = None
made_by e (Settled k f) = None

-- of the one that was made last, by all these changes in order
abbrev pub made_last : {O I S : Type 0} → EndId → List (PipeChange O I × S) → Option (ℕ × O)
made_last e [] = None
made_last e (x ∷ xs) = option_or (made_last e xs) (made_by e x.0)

-- one pipe more was made, for the end to write
abbrev pub MakesFor : {O I S : Type 0} → EndId → (capacity : ℕ) → O → (xs ys : List (PipeChange O I × S)) → Type 0
MakesFor e capacity out xs ys = (d : EndId) → made_last d ys ≡ (if is_end e d then Some (capacity, out) else made_last d xs)

-- none was made for another end to write, or for an end of another pair
abbrev pub MakesOnlyFor : {O I S : Type 0} → EndId → (xs ys : List (PipeChange O I × S)) → Type 0
MakesOnlyFor e xs ys = (d : EndId) → is_end e d ≡ false → made_last d ys ≡ made_last d xs

abbrev pub MakesOnlyOf : {O I S : Type 0} → EndId → (xs ys : List (PipeChange O I × S)) → Type 0
MakesOnlyOf e xs ys = (d : EndId) → is_end e d ≡ false → is_end (other_end e) d ≡ false → made_last d ys ≡ made_last d xs

-- none was made
abbrev pub MakesNone : {O I S : Type 0} → (xs ys : List (PipeChange O I × S)) → Type 0
MakesNone xs ys = (d : EndId) → made_last d ys ≡ made_last d xs

-- what was done to the end at a place was done while it was held there; what was done to the pipe that it writes, while its writing half was there
abbrev pub WasHeld : {N I O : Type 0} → List (Place N I) → PipeChange O I → Type 0
WasHeld ps Kept = Unit {0}
WasHeld ps (Made e capacity halves) = Unit {0}
WasHeld ps (Sealed k e half) = (p : Place _ _) → place_at ps k ≡ Some p → (p.held ≡ true) × (p.writes ≡ true)
WasHeld ps (SealedAgain k e) = (p : Place _ _) → place_at ps k ≡ Some p → (p.held ≡ true) × (p.writes ≡ true)
WasHeld ps (Parted k e half) = (p : Place _ _) → place_at ps k ≡ Some p → (p.held ≡ true) × (p.writes ≡ true)
WasHeld ps (Settled k e) = (p : Place _ _) → place_at ps k ≡ Some p → p.held ≡ true

-- each of these changes was made to an end that had been so at its place, if it had it
abbrev pub WereHeld : {N I O S : Type 0} → List (Place N I) → List (PipeChange O I × S) → Type 0
WereHeld ps [] = Unit {0}
WereHeld ps (x ∷ xs) = WasHeld ps x.0 × WereHeld ps xs

-- a pipe was made, or want of memory left all as they were
abbrev pub IsMaking : {O I : Type 0} → PipeChange O I → Type 0
IsMaking Kept = Unit {0}
IsMaking (Made e capacity halves) = Unit {0}
IsMaking (Sealed k e half) = ⊥
IsMaking (SealedAgain k e) = ⊥
IsMaking (Parted k e half) = ⊥
IsMaking (Settled k e) = ⊥

-- no more was done than that
abbrev pub AreMakings : {O I S : Type 0} → List (PipeChange O I × S) → Type 0
AreMakings [] = Unit {0}
AreMakings (x ∷ xs) = IsMaking x.0 × AreMakings xs

-- no more than that was done behind what was done before
pub record AddsMakings {O I S : Type 0} (xs ys : List (PipeChange O I × S)) : Type 0 where
  pub more : List (PipeChange O I × S)
  pub noted : ys ≡ xs ++ more
  pub makings : AreMakings more

-- the end has this place
pub record IsPlaced {N I : Type 0} (ps : List (Place N I)) (k : ℕ) (e : EndId) : Type 0 where
  pub within : k < length ps
  pub end_is : (p : Place N I) → place_at ps k ≡ Some p → p.end ≡ e

module _ {S O I N : Type 0} (K : Known S O I N) where
  -- the pipes of these names, the one that an end writes and the one that it reads, are those that were made for it last, and may hold so many messages
  pub record AreMadeFor (may_make : EndId → ℕ → ℕ → Type 0) (xs : List (PipeChange O I × S)) (e : EndId) (writes_name reads_name : N) : Type 0 where
    pub written : ℕ
    pub read : ℕ
    pub out : O
    pub other : O
    pub writes : made_last e xs ≡ Some (written, out)
    pub writes_it : K.out_name out ≡ writes_name
    pub reads : made_last (other_end e) xs ≡ Some (read, other)
    pub reads_it : K.out_name other ≡ reads_name
    pub may : ∥ may_make e written read ∥₁

  -- the end at a place joined with halves of the pipes that were made for it
  abbrev pub IsMadeAt : (may_make : EndId → ℕ → ℕ → Type 0) → List (PipeChange O I × S) → Place N I → Type 0
  IsMadeAt may_make xs p = AreMadeFor may_make xs p.end p.written p.read

  -- a pipe was made that holds so many messages, with these halves
  abbrev pub MadeWith : ℕ → List (O × I) → (old new : S) → Type 0
  MadeWith capacity [] old new = ⊥
  MadeWith capacity (x ∷ xs) old new = MakesPipe K capacity x.0 x.1 old new × KeepsAll K old new

  module _ (ps : List (Place N I)) (k : ℕ) (e : EndId) where
    -- the delimiter of the pipe that the end writes was written: its half before and behind that
    pub record PutsDelimiter (lent back : O) (old new : S) : Type 0 where
      pub placed : IsPlaced ps k e
      pub pipe_is : (p : Place N I) → place_at ps k ≡ Some p → K.out_name lent ≡ p.written
      pub there : IsThere K old (K.out_name lent)
      pub unsealed : (K.writing old lent).sealed ≡ false
      pub delimiter : K.writing new back ≡ with_delimiter (K.writing old lent)
      pub keeps : KeepsButOut K lent back old new

    -- parts that the end had not committed were rolled back
    pub record ForgetsParts (lent back : O) (old new : S) : Type 0 where
      pub placed : IsPlaced ps k e
      pub pipe_is : (p : Place N I) → place_at ps k ≡ Some p → K.out_name lent ≡ p.written
      pub forgets : K.writing new back ≡ without_parts (K.writing old lent)
      pub keeps : KeepsButOut K lent back old new

    abbrev pub SealedBy : List (O × Unit {0}) → (old new : S) → Type 0
    SealedBy (lent ∷ back ∷ []) old new = PutsDelimiter lent.0 back.0 old new
    SealedBy _ old new = ⊥

    abbrev pub PartedBy : List (O × Unit {0}) → (old new : S) → Type 0
    PartedBy (lent ∷ back ∷ []) old new = ForgetsParts lent.0 back.0 old new
    PartedBy _ old new = ⊥

    -- nothing was done to the pipe that the end writes, which was sealed before
    pub record StaysSealed (old new : S) : Type 0 where
      pub placed : IsPlaced ps k e
      pub stays : new ≡ old

    -- the halves of the pipe that the end read were joined, and it is gone
    pub record SettlesPipe (old new : S) : Type 0 where
      pub placed : IsPlaced ps k e
      pub gone : (p : Place N I) → place_at ps k ≡ Some p → p.held ≡ false
      pub keeps : (p : Place N I) → place_at ps k ≡ Some p → KeepsButPipe K p.read old new

  -- one change of the pipes of ends that have these places
  abbrev pub DoesChange : List (Place N I) → PipeChange O I → (old new : S) → Type 0
  DoesChange ps Kept old new = KeepsAll K old new
  DoesChange ps (Made e capacity halves) old new = MadeWith capacity halves.items old new
  DoesChange ps (Sealed k e half) old new = SealedBy ps k e half.items old new
  DoesChange ps (SealedAgain k e) old new = StaysSealed ps k e old new
  DoesChange ps (Parted k e half) old new = PartedBy ps k e half.items old new
  DoesChange ps (Settled k e) old new = SettlesPipe ps k e old new

  -- these changes were made, in order; each stands with the pipes as it left them
  abbrev pub DoesChanges : List (Place N I) → (old : S) → List (PipeChange O I × S) → (new : S) → Type 0
  DoesChanges ps old [] new = new ≡ old
  DoesChanges ps old (x ∷ xs) new = DoesChange ps x.0 old x.1 × DoesChanges ps x.1 xs new

  -- such changes came behind those before, to ends that had been held at their places, with these sealings among them
  pub record DoesMore (were ps : List (Place N I)) (sealings : List (EndId × Bool)) (xs : List (PipeChange O I × S)) (old : S) (ys : List (PipeChange O I × S)) (new : S) : Type 0 where
    pub more : List (PipeChange O I × S)
    pub noted : ys ≡ xs ++ more
    pub does : DoesChanges ps old more new
    pub held : WereHeld were more
    pub sealings_are : sealings_in more ≡ sealings

-- a change of a half was noted, with the half before and behind it
pub record NotesHalf {O I S : Type 0} (change : Log O (Unit {0}) → PipeChange O I) (lent back : O) (new : S) (xs ys : List (PipeChange O I × S)) : Type 0 where
  pub half : Log O (Unit {0})
  pub half_is : half.items ≡ (lent, tt) ∷ (back, tt) ∷ []
  pub noted : ys ≡ xs ++ (change half, new) ∷ []
