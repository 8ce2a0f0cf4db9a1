-- The steps past, where pipes are made, sealed and settled, and the control plane goes on (own choice).
use Rattle.std.specs.Prelude.{◌≡◌, ◌≢◌, ◌<◌, ℕ, false, List, [], ◌∷◌, ◌++◌, Option, Some, None}
use Rattle.std.specs.List.{AllByRecursion}
use Rattle.zq_base.specs.Ends.{PipeId}
use Rattle.spec_pattern.specs.PipeStep.{PipeStep, Seal, AreExact, same_pipe}
use Rattle.spec_pattern.specs.Half.{with_delimiter, without_parts}
use Rattle.msg_pipe.specs.Known.{Known, KeepsAll, KeepsButOut, KeepsButPipe, MakesPipe}
use Rattle.end_table.specs.Past.{OneName, IsPast}
use Rattle.spec_control.specs.declared.entry.Item.{Item}
use Rattle.spec_control.specs.Control.{begun, next_pair, with_end}
use Rattle.spec_control.specs.ControlRun.{after_all, IsControlRun}
use Rattle.spec_run.specs.OwnedRun.{pipe_capacity}
use Rattle.run_laws.specs.CapacitiesStay.{pipe_at}

-- no step past is at this pipe
abbrev pub HasNoStep : PipeId → List PipeStep → Type 0
HasNoStep p past = AllByRecursion (λ s. same_pipe p (pipe_at s) ≡ false) past

module _ {N : Type 0} where
  -- a pipe goes by no name any more, and one goes by this name
  abbrev pub goes_without : PipeId → (PipeId → Option N) → PipeId → Option N
  goes_without p goes = with_end p None goes

  abbrev pub goes_with : PipeId → N → (PipeId → Option N) → PipeId → Option N
  goes_with p n goes = with_end p (Some n) goes

  -- fewer pipes go by names, and none by this one
  pub record AreFewer (goes fewer : PipeId → Option N) (gone : N) : Type 0 where
    pub were : (p : PipeId) (n : N) → fewer p ≡ Some n → goes p ≡ Some n
    pub others : (p : PipeId) (n : N) → fewer p ≡ Some n → n ≢ gone

module _ {S O I N : Type 0} (K : Known S O I N) where
  -- what a call leaves of the steps past, by what it does to pipes
  pub record PastGoesOn : Type 0 where
    -- all pipes are kept
    pub kept : (goes : PipeId → Option N) (capacity : PipeId → ℕ) (old new : S) (past : List PipeStep) →
        KeepsAll K old new → IsPast K goes capacity old past → IsPast K goes capacity new past
    -- a pipe is settled: it goes by no name, or fewer do and none by its name
    pub settled : (goes : PipeId → Option N) (capacity : PipeId → ℕ) (old new : S) (past : List PipeStep) (p : PipeId) (n : N) →
        OneName goes → goes p ≡ Some n → KeepsButPipe K n old new → IsPast K goes capacity old past →
        IsPast K (goes_without p goes) capacity new past × OneName (goes_without p goes)
    pub fewer : (goes fewer : PipeId → Option N) (capacity : PipeId → ℕ) (old new : S) (past : List PipeStep) (gone : N) →
        AreFewer goes fewer gone → KeepsButPipe K gone old new → IsPast K goes capacity old past → IsPast K fewer capacity new past
    -- a pipe is made, at which no step was made before
    pub made : (goes : PipeId → Option N) (capacity : PipeId → ℕ) (old new : S) (past : List PipeStep) (p : PipeId) (o : O) (i : I) →
        OneName goes → MakesPipe K (capacity p) o i old new → KeepsAll K old new → HasNoStep p past → IsPast K goes capacity old past →
        IsPast K (goes_with p (K.out_name o) goes) capacity new past × OneName (goes_with p (K.out_name o) goes)
    -- the delimiter of a pipe is written
    pub sealed : (goes : PipeId → Option N) (capacity : PipeId → ℕ) (old new : S) (past : List PipeStep) (p : PipeId) (lent back : O) →
        OneName goes → goes p ≡ Some (K.out_name lent) → (K.writing old lent).sealed ≡ false → K.writing new back ≡ with_delimiter (K.writing old lent) →
        KeepsButOut K lent back old new → IsPast K goes capacity old past → IsPast K goes capacity new (past ++ Seal p ∷ [])
    -- parts that were not committed to a pipe are rolled back
    pub parted : (goes : PipeId → Option N) (capacity : PipeId → ℕ) (old new : S) (past : List PipeStep) (p : PipeId) (lent back : O) →
        OneName goes → goes p ≡ Some (K.out_name lent) → K.writing new back ≡ without_parts (K.writing old lent) → KeepsButOut K lent back old new → IsPast K goes capacity old past → IsPast K goes capacity new past
    -- the two pipes of a pair are made, one after the other
    pub pair : (goes : PipeId → Option N) (capacity : PipeId → ℕ) (old mid new : S) (past : List PipeStep) (p q : PipeId) (o u : O) (i j : I) →
        OneName goes → MakesPipe K (capacity p) o i old mid → KeepsAll K old mid → MakesPipe K (capacity q) u j mid new → KeepsAll K mid new →
        HasNoStep p past → HasNoStep q past → IsPast K goes capacity old past →
        let more = goes_with q (K.out_name u) (goes_with p (K.out_name o) goes) in IsPast K more capacity new past × OneName more
    -- other capacities, that are the same of each pipe that goes by a name and leave what was done exact
    pub capacities : (goes : PipeId → Option N) (capacity now : PipeId → ℕ) (pipes : S) (past : List PipeStep) →
        ((p : PipeId) (n : N) → goes p ≡ Some n → now p ≡ capacity p) → AreExact now [] past → IsPast K goes capacity pipes past → IsPast K goes now pipes past

-- and where the control plane goes on: pipes and steps are of pairs that have their numbers
abbrev pub PastStaysOver : {S O I N : Type 0} → Known S O I N → (M T : Type 0) → Type 0
PastStaysOver {S} {O} {I} {N} K M T = (io : ℕ) (items more : List (Item M T)) → IsControlRun (begun io) items → IsControlRun (after_all items (begun io)) more →
    let c = after_all items (begun io) in
    (goes : PipeId → Option N) (pipes : S) (past : List PipeStep) → ((p : PipeId) (n : N) → goes p ≡ Some n → p.pair.0 < next_pair c) →
    AllByRecursion (λ s. (pipe_at s).pair.0 < next_pair c) past →
    IsPast K goes (pipe_capacity c) pipes past → IsPast K goes (pipe_capacity (after_all more c)) pipes past
