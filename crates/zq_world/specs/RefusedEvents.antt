-- What no event does, wherever it comes: for each event a doing that its definition refuses (own choice).
use Rattle.std.specs.Prelude.{◌≡◌, ℕ, true, false, List, [], ◌∷◌, Some, None}
use Rattle.spec_control.specs.Control.{Control}
use Rattle.spec_run.specs.Standing.{ActorStanding, has_finished}
use Rattle.spec_run.specs.CoreEvents.{CoreEvent, NextLine, TakeFrom, AskRoot, Tick, Made, may_take, actor_with, EventDoes}

-- of runs with one I/O worker
pub record RefusedEvents (N S : Type 0) : Type 0 where
  -- an actor that has not finished is not left out, and one that has does nothing
  pub left_out : (c : Control) (st : ActorStanding) (others new : List ActorStanding) → has_finished st ≡ false → EventDoes {N = N} {S = S} 1 c (NextLine 0) (st ∷ others) [] new → ⊥
  pub finished : (c : Control) (st : ActorStanding) (others new : List ActorStanding) (m : Made N S) (made : List (Made N S)) → has_finished st ≡ true → EventDoes 1 c (NextLine 0) (st ∷ others) (m ∷ made) new → ⊥
  -- no letter is taken where none may be
  pub taken : (c : Control) (slot : ℕ) (old new : List ActorStanding) (m : Made N S) (made : List (Made N S)) → may_take c slot ≡ false → EventDoes 1 c (TakeFrom slot) old (m ∷ made) new → ⊥
  -- one that may be taken is not left to an open socket that has its mailbox, nor at the root's
  pub left_open : (c : Control) (slot actor : ℕ) (old new : List ActorStanding) → may_take c slot ≡ true → actor_with slot 0 old ≡ Some actor → EventDoes {N = N} {S = S} 1 c (TakeFrom slot) old [] new → ⊥
  pub left_root : (c : Control) (old new : List ActorStanding) → may_take c 0 ≡ true → actor_with 0 0 old ≡ None → EventDoes {N = N} {S = S} 1 c (TakeFrom 0) old [] new → ⊥
  -- the root is asked, also where it was asked before, and each reading is told
  pub unasked : (c : Control) (old new : List ActorStanding) → EventDoes {N = N} {S = S} 1 c AskRoot old [] new → ⊥
  pub untold : (c : Control) (now : ℕ) (old new : List ActorStanding) → EventDoes {N = N} {S = S} 1 c (Tick now) old [] new → ⊥
  -- and none makes two deeds
  pub twice : (c : Control) (event : CoreEvent) (old new : List ActorStanding) (m n : Made N S) (made : List (Made N S)) → EventDoes 1 c event old (m ∷ n ∷ made) new → ⊥
