-- What the holders of ends are told of their states in an event, read off the control state before it and behind it (own choice, after libzmq's `pipe_t`).
use Rattle.std.specs.Prelude.{◌≡◌, ◌++◌, ◌∷◌, [], List, if◌then◌else◌}
use Rattle.zq_base.specs.declared.ids.EndId.{EndId}
use Rattle.spec_control.specs.declared.end.EndState.{EndState}
use Rattle.spec_control.specs.declared.end.EndState.TheVariants.{Active, DelimiterGot, WaitDelimiter, AckSent, AskedOnce, AskedTwice, Gone}
use Rattle.spec_control.specs.Place.{Place, Unmade, Away, At}
use Rattle.spec_control.specs.Control.{Control, place_of}
use Rattle.desk.specs.Holding.{Holding, is_state}

-- what is gone stays so; an end of a pair that had no number yet has the place of one that is gone, and begins Active
abbrev pub unless_gone : (now : EndState) → EndState
unless_gone Active = Active
unless_gone DelimiterGot = Active
unless_gone WaitDelimiter = Active
unless_gone AckSent = Active
unless_gone AskedOnce = Active
unless_gone AskedTwice = Active
unless_gone Gone = Gone

-- how far an end was before it came to this state; one that is attached begins Active
abbrev pub state_before : Place → (now : EndState) → EndState
state_before Unmade now = Active
state_before Away now = Active
state_before (At Active) now = Active
state_before (At DelimiterGot) now = DelimiterGot
state_before (At WaitDelimiter) now = WaitDelimiter
state_before (At AckSent) now = AckSent
state_before (At AskedOnce) now = AskedOnce
state_before (At AskedTwice) now = AskedTwice
state_before (At Gone) now = unless_gone now

-- the change of state that an end goes through between two places, if any
abbrev pub turn_at : EndId → (before now : Place) → List (EndId × EndState)
turn_at e before Unmade = []
turn_at e before Away = []
turn_at e before (At state) = if is_state (state_before before state) state then [] else (e, state) ∷ []

-- those of these ends, in their order
abbrev pub turned_over : (before now : EndId → Place) → List EndId → List (EndId × EndState)
turned_over before now [] = []
turned_over before now (e ∷ es) = turn_at e (before e) (now e) ++ turned_over before now es

-- those of all ends, in the order of their attachment
abbrev pub turned_in : (before now : Control) → List (EndId × EndState)
turned_in before now = turned_over (place_of before) (place_of now) now.attached

-- an end that comes to be asked once has told the other end, and its pipe gets its delimiter
abbrev pub sealed_by : List (EndId × EndState) → List EndId
sealed_by [] = []
sealed_by (t ∷ ts) = if is_state t.1 AskedOnce then t.0 ∷ sealed_by ts else sealed_by ts

module _ {N : Type 0} where
  -- a holder was told these changes of state behind those before, and was to seal the pipes of the ends that were asked
  pub record TurnsBy (ts : List (EndId × EndState)) (old new : Holding N) : Type 0 where
    pub turns : new.turns ≡ old.turns ++ ts
    pub sealed : new.sealed ≡ old.sealed ++ sealed_by ts

  -- it was told the changes of state of an event, each once
  abbrev pub HasTurned : (before now : Control) → (old new : Holding N) → Type 0
  HasTurned before now old new = TurnsBy (turned_in before now) old new
