-- Who makes the steps at each side of a pipe (own choice, after libzmq's `pipe_t`, which one thread writes and one reads).
use Rattle.std.specs.Prelude.{◌≡◌, ◌⊎◌, Bool, true, false, List, [], ◌∷◌, ◌++◌}
use Rattle.std.specs.List.{list_any, AllByRecursion}
use Rattle.zq_base.specs.Ends.{PipeId}
use Rattle.spec_pattern.specs.PipeStep.{PipeStep, Commit, FullLook, RoomLook, Take, EmptyLook, DelimiterLook, WaitingLook, Seal, same_pipe}
use Rattle.spec_run.specs.Act.{steps_in}
use Rattle.zq_world.specs.Piece.{Piece}

-- a step at the side that writes the pipe; a delimiter is left out, since it changes no count and the reaper may write it
abbrev pub is_written : PipeId → PipeStep → Bool
is_written p (Commit q m) = same_pipe p q
is_written p (FullLook q) = same_pipe p q
is_written p (RoomLook q) = same_pipe p q
is_written p (Take q m) = false
is_written p (EmptyLook q) = false
is_written p (DelimiterLook q) = false
is_written p (WaitingLook q) = false
is_written p (Seal q) = false

-- a step at the side that reads it
abbrev pub is_read : PipeId → PipeStep → Bool
is_read p (Commit q m) = false
is_read p (FullLook q) = false
is_read p (RoomLook q) = false
is_read p (Take q m) = same_pipe p q
is_read p (EmptyLook q) = same_pipe p q
is_read p (DelimiterLook q) = same_pipe p q
is_read p (WaitingLook q) = same_pipe p q
is_read p (Seal q) = false

module _ {N S : Type 0} where
  -- a call makes such a step
  abbrev pub makes : (PipeStep → Bool) → Piece N S → Bool
  makes side x = list_any side (steps_in x.acts)

  -- the later call is the same caller's, or the reaper's where the earlier is not
  abbrev pub MayFollow : (earlier later : Piece N S) → Type 0
  MayFollow earlier later = (earlier.by ≡ later.by) ⊎ ((earlier.reaps ≡ false) × (later.reaps ≡ true))

  -- the calls with steps at one side are one caller's, and behind them the reaper's: one caller at a time has the object of an end, and an actor gives its socket to the reaper for good, who may look on at an end that waits for its delimiter; along a side callers' numbers then never fall where the reaper's is above the actors', which the run knows and a core can't, being told any numbers
  abbrev pub AreOneSided : (side : PipeStep → Bool) → (past pieces : List (Piece N S)) → Type 0
  AreOneSided side past [] = Unit {0}
  AreOneSided side past (x ∷ xs) =
      (makes side x ≡ true → AllByRecursion (λ y. makes side y ≡ true → MayFollow y x) past) × AreOneSided side (past ++ x ∷ []) xs

  -- and this of each side of each pipe
  pub record OneSided (pieces : List (Piece N S)) : Type 0 where
    pub written : (p : PipeId) → AreOneSided (is_written p) [] pieces
    pub read : (p : PipeId) → AreOneSided (is_read p) [] pieces

-- a call more, which may come behind each of those before it
abbrev pub SidesGoOn : (N S : Type 0) → Type 0
SidesGoOn N S = (side : PipeStep → Bool) (pieces : List (Piece N S)) (x : Piece N S) → AreOneSided side [] pieces →
    (makes side x ≡ true → AllByRecursion (λ y. makes side y ≡ true → MayFollow y x) pieces) → AreOneSided side [] (pieces ++ x ∷ [])
