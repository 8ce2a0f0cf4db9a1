-- What begins a part of a turn, whatever happened before (own choice).
use Rattle.std.specs.Prelude.{◌≡◌, ◌⊎◌, ℕ, Bool, true, false, List, ◌++◌, Some}
use Rattle.spec_control.specs.declared.request.Req.TheVariants.{OutputOver}
use Rattle.spec_link.specs.declared.due.Due.TheVariants.{Request}
use Rattle.spec_link.specs.LinkAct.{LinkAct}
use Rattle.spec_link.specs.Parts.{SomethingToWrite}
use Rattle.spec_link.specs.History.{Basis, SessionEvent, Standing, after_all}
use Rattle.spec_link.specs.Turn.{DueOnce, HasNoOutput, IsTold}
use Rattle.spec_link.specs.TurnParts.{Begins}
use Rattle.zq_session.specs.declared.course.Course.{Course}
use Rattle.zq_session.specs.Lives.{Story, basis_of, standing_of}
use Rattle.zq_session.specs.LifeSteps.{AndMoved, GivesUpAt}
use Rattle.zq_session.specs.Courses.{HasStory, CourseStep}

-- no output is left to wait for
abbrev pub IsOutputGone : Basis → Standing → Type 0
IsOutputGone b s = (s.gave_up ≡ true) ⊎ ((b.linger ≡ Some 0) ⊎ ((acts : List LinkAct) → s.link ≡ Some acts → SomethingToWrite b.opts acts → ⊥))

-- of this story, such events happened
pub record CourseDoes (does : Basis → Standing → List SessionEvent → Type 0) (old new : Course) (p : Story) : Type 0 where
  pub events : List SessionEvent
  pub does_is : does (basis_of old.life p) (standing_of old.life p) events
  pub step : CourseStep old new p events

-- the output is over, once, where it waited for that
abbrev pub EndsOutput : Basis → Standing → List SessionEvent → Type 0
EndsOutput b s events = DueOnce s (IsTold s × ((s.waits ≡ true) × HasNoOutput b s)) (Request (OutputOver b.object)) events

abbrev pub OutputBy : (moved : Bool) → Course → Course → Type 0
OutputBy moved old new = (p : Story) → HasStory old p → CourseDoes (AndMoved moved EndsOutput) old new p

-- what begins a part
abbrev pub BeginsBy : (now : ℕ) (moved : Bool) → Course → Course → Story → Type 0
BeginsBy now moved old new p = CourseDoes (AndMoved moved (λ b s events. Begins b s now events)) old new p

-- what begins a part, of one that didn't give up, and this behind it
pub record BeginsUp (b : Basis) (s : Standing) (now : ℕ) (does : Standing → List SessionEvent → Type 0) (more : List SessionEvent) : Type 0 where
  pub first : List SessionEvent
  pub works : List SessionEvent
  pub all : more ≡ first ++ works
  pub begins : Begins b s now first
  pub up : (after_all b s first).gave_up ≡ false
  pub works_as : does (after_all b s first) works

-- a part that memory cut short: as it began, behind giving up; or as it worked
abbrev pub IsCutPart : Basis → Standing → ℕ → (Standing → List SessionEvent → Type 0) → List SessionEvent → Type 0
IsCutPart b s now does more = GivesUpAt now b s more ⊎ BeginsUp b s now does more
