-- The events that the worked run of a socket that is made and closed chooses, by hand from its turns.
use Rattle.std.specs.Prelude.{◌≡◌, ℕ, List, [], ◌∷◌}
use Rattle.spec_control.specs.ControlExamples.{Stories}
use Rattle.spec_run.specs.CoreEvents.{CoreEvent, NextLine, TakeFrom, AskRoot, Tick}
use Rattle.spec_run.specs.ClosingExample.{closing_turned}
use Rattle.replay_laws.specs.TurnsAreEvents.{events_chosen}

-- worker 0 is the actor, 1 the reaper, 2 the I/O worker
abbrev pub plain_orders : List (List ℕ)
plain_orders = (0 ∷ 1 ∷ 2 ∷ []) ∷ (0 ∷ 1 ∷ 2 ∷ []) ∷ (0 ∷ 1 ∷ 2 ∷ []) ∷ (0 ∷ 1 ∷ 2 ∷ []) ∷ []

-- other orders of the same turns
abbrev pub drawn_orders : List (List ℕ)
drawn_orders = (2 ∷ 1 ∷ 0 ∷ []) ∷ (0 ∷ 2 ∷ 1 ∷ []) ∷ (1 ∷ 0 ∷ 2 ∷ []) ∷ (0 ∷ 1 ∷ 2 ∷ []) ∷ []

abbrev pub plain_events : List CoreEvent
plain_events =
    Tick 0
    ∷ NextLine 0 ∷ Tick 1
    ∷ NextLine 0 ∷ TakeFrom 0 ∷ Tick 2
    ∷ AskRoot ∷ NextLine 0 ∷ TakeFrom 2 ∷ Tick 3
    ∷ NextLine 0 ∷ TakeFrom 0 ∷ Tick 4
    ∷ []

abbrev pub drawn_events : List CoreEvent
drawn_events =
    Tick 0
    ∷ NextLine 0 ∷ Tick 1
    ∷ NextLine 0 ∷ TakeFrom 0 ∷ Tick 2
    ∷ AskRoot ∷ TakeFrom 2 ∷ NextLine 0 ∷ Tick 3
    ∷ NextLine 0 ∷ TakeFrom 0 ∷ Tick 4
    ∷ []

-- where the reaper finds its mailboxes empty there is no event of it, and an actor that has finished has one that does nothing
pub record ChosenIsSo : Type 0 where
  pub plain : (stories : Stories) → events_chosen 1 plain_orders (closing_turned stories) ≡ plain_events
  pub drawn : (stories : Stories) → events_chosen 1 drawn_orders (closing_turned stories) ≡ drawn_events
