-- The rows that steps lead to, and what is then so of an object that has ended (own choice, after libzmq's `own_t` and `pipe_t`).
use Rattle.std.specs.Prelude.{◌≡◌, ◌&&◌, ◌||◌, ℕ, Bool, true, false, List, [], ◌∷◌, Some}
use Rattle.spec_control.specs.Stage.{has_ended}
use Rattle.spec_control.specs.Place.{EndWord, Half, is_gone, is_unmade}
use Rattle.spec_control.specs.Row.{up_queue, down_queue}
use Rattle.spec_control.specs.Rows.{Rows, root_alone, obj, pair, end_half, end_owner, end_place, Step}

-- the rows that steps lead to from a context at its making
pub data IsReached : Rows → Type 0 where
  begins : IsReached root_alone
  goes_on : (old new : Rows) → IsReached old → Step old new → IsReached new

abbrev pub is_empty : List EndWord → Bool
is_empty [] = true
is_empty (word ∷ words) = false

-- the end is gone or was never made, and nothing is on its way to it
abbrev pub is_past : Half → Bool
is_past h = (is_gone h.place || is_unmade h.place) && is_empty h.mail

-- nothing is on its way to an object, or about what it owns
pub record NothingComes (s : Rows) (i : ℕ) : Type 0 where
  pub own : down_queue (obj s i) ≡ []
  pub children : (c : ℕ) → (obj s c).owner ≡ Some i → up_queue (obj s c) ≡ []
  pub ends : (k : ℕ) (a : Bool) → end_owner (pair s k) a ≡ i → (end_half (pair s k) a).mail ≡ []

-- in each state that is reached, no command on its way is for an object that has ended
abbrev pub NothingForEnded : Type 0
NothingForEnded = (s : Rows) (i : ℕ) → IsReached s → has_ended (obj s i).stage ≡ true → NothingComes s i

-- what an ended object owns has ended, and each end that it was given is gone
pub record AllIsOver (s : Rows) (i : ℕ) : Type 0 where
  pub children : (c : ℕ) → (obj s c).owner ≡ Some i → has_ended (obj s c).stage ≡ true
  pub ends : (k : ℕ) (a : Bool) → end_owner (pair s k) a ≡ i → (is_gone (end_place (pair s k) a) || is_unmade (end_place (pair s k) a)) ≡ true

abbrev pub ChildrenAndEndsFirst : Type 0
ChildrenAndEndsFirst = (s : Rows) (i : ℕ) → IsReached s → has_ended (obj s i).stage ≡ true → AllIsOver s i
