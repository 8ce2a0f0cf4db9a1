-- What one step adds to what happened to a session, aside from its link and what dials (own choice).
use Rattle.std.specs.Prelude.{◌≡◌, ℕ, Bool, true, false, List, Some, Contains}
use Rattle.spec_link.specs.declared.due.Due.{Due}
use Rattle.spec_link.specs.History.{Basis, SessionEvent, Standing, after_all}
use Rattle.spec_link.specs.TurnParts.{GivesUpBy}
use Rattle.spec_link.specs.Moving.{has_moved}
use Rattle.zq_session.specs.declared.life.Life.{Life}
use Rattle.zq_session.specs.Lives.{Story, AreDue, basis_of, standing_of}

-- the same story with this due
abbrev pub with_dues : Story → List Due → Story
with_dues p dues = record p { dues = dues }

-- behind its Term
abbrev pub behind_term : (now : ℕ) (at_once : Bool) → Life → Life
behind_term now true l = record l { told = Some now; gave_up = true }
behind_term now false l = record l { told = Some now }

-- what stays through all of a session's life
pub record IsSame (old new : Life) : Type 0 where
  pub object_is : new.object ≡ old.object
  pub end_is : new.end ≡ old.end
  pub kind_is : new.kind ≡ old.kind
  pub dials_is : new.dials ≡ old.dials
  pub linger_is : new.linger ≡ old.linger
  pub state_is : new.state ≡ old.state
  pub told_is : new.told ≡ old.told
  pub waits_is : new.waits ≡ old.waits

-- these events happened, and what is kept is of the story with them
pub record LifeStep (old new : Life) (p : Story) (events : List SessionEvent) : Type 0 where
  pub dues : List Due
  pub after_is : after_all (basis_of old p) (standing_of old p) events ≡ standing_of new (with_dues p dues)
  pub due : AreDue new new.asked dues
  pub same : IsSame old new
  pub grows : (x : Due) → Contains p.dues x → Contains dues x
  pub shaken_is : new.asked.shaken ≡ old.asked.shaken

-- whatever the story, events of this kind happened
abbrev pub LifeDoes : Life → Life → (Basis → Standing → List SessionEvent → Type 0) → Type 0
LifeDoes old new does =
    (p : Story) → AreDue old old.asked p.dues → (events : List SessionEvent) × LifeStep old new p events × does (basis_of old p) (standing_of old p) events

-- it gives up where its linger is over
abbrev pub GivesUpAt : (now : ℕ) → Basis → Standing → List SessionEvent → Type 0
GivesUpAt now b s events = GivesUpBy b s now events

-- and it is told whether the events moved anything
abbrev pub AndMoved : (moved : Bool) → (Basis → Standing → List SessionEvent → Type 0) → Basis → Standing → List SessionEvent → Type 0
AndMoved moved does b s events = does b s events × (moved ≡ has_moved events)
