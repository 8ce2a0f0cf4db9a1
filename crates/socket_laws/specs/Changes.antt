-- What the calls of a socket on the control plane leave of the steps past, by what they did to the pipes (own choice, after libzmq's `pipe_t`).
use Rattle.std.specs.Prelude.{◌≡◌, ◌≤◌, ◌<◌, ◌++◌, ℕ, false, List, [], ◌∷◌, Option, Some, None, is_some, true, map}
use Rattle.std.specs.List.{list_any, AllByRecursion}
use Rattle.zq_base.specs.declared.ids.EndId.{EndId}
use Rattle.zq_base.specs.Ends.{PipeId}
use Rattle.msg_pipe.specs.Known.{Known}
use Rattle.spec_pattern.specs.PipeStep.{PipeStep, Seal, read_through}
use Rattle.spec_control.specs.declared.entry.Item.{Item}
use Rattle.spec_control.specs.Control.{Control, begun, is_end, next_pair}
use Rattle.spec_control.specs.ControlRun.{after_all, IsControlRun}
use Rattle.spec_run.specs.OwnedRun.{settlement_of, pipe_capacity}
use Rattle.end_table.specs.declared.table.Place.{Place}
use Rattle.end_table.specs.Places.{place_at}
use Rattle.end_table.specs.declared.changes.PipeChange.{PipeChange}
use Rattle.end_table.specs.declared.changes.PipeChange.TheVariants.{Kept, Made, Sealed, SealedAgain, Parted, Settled}
use Rattle.end_table.specs.Changes.{sealings_in, made_last, DoesChanges}
use Rattle.sock_core.specs.Came.{AreChangedAt}
use Rattle.sock_core.specs.Noted.{TellsSeals}
use Rattle.socket_laws.specs.Standing.{PastStands}

-- ---- what was done to the pipes

-- the end whose pipe got its delimiter
abbrev pub delimited_by : {O I : Type 0} → PipeChange O I → List EndId
delimited_by Kept = []
delimited_by (Made e capacity halves) = []
delimited_by (Sealed k e half) = e ∷ []
delimited_by (SealedAgain k e) = []
delimited_by (Parted k e half) = []
delimited_by (Settled k e) = []

-- by all these changes, in order
abbrev pub delimited_in : {O I S : Type 0} → List (PipeChange O I × S) → List EndId
delimited_in [] = []
delimited_in (x ∷ xs) = delimited_by x.0 ++ delimited_in xs

-- A pipe whose writer did something was not settled before, one that got its delimiter is not settled behind the calls either, and one that was settled is so behind them and was not before.
abbrev pub IsOfPipes : {O I : Type 0} → (c now : Control) → PipeChange O I → Type 0
IsOfPipes c now Kept = Unit {0}
IsOfPipes c now (Made e capacity halves) = Unit {0}
IsOfPipes c now (Sealed k e half) = settlement_of now e ≡ None
IsOfPipes c now (SealedAgain k e) = Unit {0}
IsOfPipes c now (Parted k e half) = settlement_of c e ≡ None
IsOfPipes c now (Settled k e) = (settlement_of c (read_through e) ≡ None) × (is_some (settlement_of now (read_through e)) ≡ true)

-- ---- the names of pipes

-- the pipes of an end have the names that stand at its place
abbrev pub IsPlaceNamed : {N I : Type 0} → (PipeId → Option N) → Place N I → Type 0
IsPlaceNamed names p = (names p.end ≡ Some p.written) × (names (read_through p.end) ≡ Some p.read)

-- so do those of each end
abbrev pub ArePlacesNamed : {N I : Type 0} → (PipeId → Option N) → List (Place N I) → Type 0
ArePlacesNamed {N} {I} names ps = (k : ℕ) (p : Place N I) → place_at ps k ≡ Some p → IsPlaceNamed names p

-- so do those of each end at whose place something was changed
abbrev pub AreChangesNamed : {N O I S : Type 0} → (PipeId → Option N) → List (Place N I) → List (PipeChange O I × S) → Type 0
AreChangesNamed names ps changes = AreChangedAt (λ k p. IsPlaceNamed names p) 0 ps changes

module _ {S O I N : Type 0} (K : Known S O I N) (c now : Control) (changes : List (PipeChange O I × S)) where
  -- A pipe that goes by a name since the calls is of a pair that got its number in them, while no pipe was settled. It was made, last with this half, and holds its capacity.
  pub record IsMade (p : PipeId) (n : N) : Type 0 where
    pub drawn : next_pair c ≤ p.pair.0
    pub numbered : p.pair.0 < next_pair now
    pub capacity : ℕ
    pub half : O
    pub made : made_last p changes ≡ Some (capacity, half)
    pub name_is : K.out_name half ≡ n
    pub holds : capacity ≡ pipe_capacity now p
    pub settles_none : (q : PipeId) → settlement_of c q ≡ None → settlement_of now q ≡ None

  -- a pipe that had a name has it still, and one that had none was made
  pub record NamesGoOn (names said : PipeId → Option N) : Type 0 where
    pub kept : (p : PipeId) (n : N) → names p ≡ Some n → said p ≡ Some n
    pub more : (p : PipeId) (n : N) → names p ≡ None → said p ≡ Some n → IsMade p n

-- ---- the laws

-- the steps past stand still, with a step for each delimiter that was written
abbrev pub ChangesGoOn : {S O I N : Type 0} → Known S O I N → (T : Type 0) → Type 0
ChangesGoOn {S} {O} {I} {N} K T = (io : ℕ) (items more : List (Item N T)) → IsControlRun (begun io) items → IsControlRun (after_all items (begun io)) more →
    let c = after_all items (begun io) in
    let now = after_all more c in
    (names said : PipeId → Option N) → ((p : PipeId) (n : N) → names p ≡ Some n → p.pair.0 < next_pair c) →
    (ps : List (Place N I)) (changes : List (PipeChange O I × S)) → AreChangesNamed said ps changes → (old new : S) (past : List PipeStep) →
    NamesGoOn K c now changes names said → AllByRecursion (λ x. IsOfPipes c now x.0) changes → DoesChanges K ps old changes new →
    PastStands K c names old past → PastStands K now said new (past ++ map Seal (delimited_in changes))

-- these ends are new behind those before, and two by two different
abbrev pub AreNew : List EndId → List EndId → Type 0
AreNew before [] = Unit {0}
AreNew before (e ∷ es) = (list_any (is_end e) before ≡ false) × AreNew (before ++ e ∷ []) es

-- where a socket was told to seal just such ends, the pipe of each got its delimiter, in the same order
abbrev pub SealsAreNew : (S O I : Type 0) → Type 0
SealsAreNew S O I = (before es now : List EndId) (changes : List (PipeChange O I × S)) →
    TellsSeals before (sealings_in changes) now → now ≡ before ++ es → AreNew before es → delimited_in changes ≡ es
