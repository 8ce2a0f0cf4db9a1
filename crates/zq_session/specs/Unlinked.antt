-- A part of a turn without a link: the look and the dial (own choice).
use Rattle.std.specs.Prelude.{◌≡◌, ℕ, ◌≤◌, ◌⊎◌, Bool, true, false, List, [], ◌∷◌, Option, Some, None, IsSome}
use Rattle.std.specs.List.{flat_map}
use Rattle.zq_base.specs.Ends.{PipeId}
use Rattle.msg_pipe.specs.Known.{Known}
use Rattle.msg_pipe.specs.Told.{front_step}
use Rattle.msg_pipe.specs.declared.pipes.Front.{Front}
use Rattle.spec_link.specs.LinkAct.{HostAnswer, Linked}
use Rattle.spec_link.specs.History.{Basis, SessionEvent, Dialled, Standing}
use Rattle.spec_link.specs.Turn.{Exactly, CanRead, IsTold, Looks, IsUnlinkedTurn}
use Rattle.spec_link.specs.TurnParts.{IsDialPart}
use Rattle.spec_link.specs.Moving.{has_moved}
use Rattle.zq_session.specs.declared.course.Course.{Course}
use Rattle.link_side.specs.Dials.{HostCounts}
use Rattle.zq_session.specs.Lives.{Story, basis_of, standing_of}
use Rattle.zq_session.specs.Halves.{StepRun, StepsRun, step_at}
use Rattle.zq_session.specs.Courses.{HasStory, CourseStep}
use Rattle.zq_session.specs.LifeSteps.{AndMoved}
use Rattle.zq_session.specs.Beginning.{CourseDoes, IsCutPart}

-- the dial of an answer, where one was made
abbrev pub dial_events : ℕ → Option HostAnswer → List SessionEvent
dial_events now None = []
dial_events now (Some answer) = Dialled now answer ∷ []

-- a dial is due, by whether the look before it met the delimiter
pub record IsDialDue (b : Basis) (s : Standing) (met : Bool) (now : ℕ) : Type 0 where
  pub dials : b.dials ≡ true
  pub moment : s.dial_at ≤ now
  pub wanted : (IsTold s → ⊥) ⊎ (CanRead s × (met ≡ false))

-- one dial exactly where it is due
pub record DialsBy (now : ℕ) (met moved : Bool) (old new : Course) (faults faults' stalls stalls' : ℕ) : Type 0 where
  pub answer : Option HostAnswer
  pub counts : HostCounts answer faults faults' stalls stalls'
  pub does : (p : Story) → HasStory old p → p.link ≡ None →
      Exactly (IsDialDue (basis_of old.life p) (standing_of old.life p) met now) (λ e. (a : HostAnswer) × (e ≡ Dialled now a ∷ [])) (dial_events now answer)
      × CourseStep old new p (dial_events now answer)
  pub linked : IsSome new.side → answer ≡ Some Linked
  pub moved_is : moved ≡ has_moved (dial_events now answer)

-- the look of one that memory cut short behind it, where one is due
abbrev pub LooksAt : Basis → Standing → List SessionEvent → Type 0
LooksAt b s events = Exactly (CanRead s) (Looks b s) events

-- a part without a link that memory cut short: as it began, or behind its look
abbrev pub IsCutDial : ℕ → Basis → Standing → List SessionEvent → Type 0
IsCutDial now b s events = IsCutPart b s now (λ t works. LooksAt b t works) events

module _ {S O I N : Type 0} (K : Known S O I N) where
  -- a look exactly where the end can be read
  abbrev pub LooksBy : (can_read : Bool) → Option Front → S → Option I → S → Option I → Type 0
  LooksBy can_read None s i s' i' = (can_read ≡ false) × ((s' ≡ s) × (i' ≡ i))
  LooksBy can_read (Some found) s i s' i' = (can_read ≡ true) × ((pipe : PipeId) (o : Option O) → StepRun K (front_step pipe found) s i o s' i' o)

  -- such events happened, and the halves did what stands among them
  pub record HalvesDo (does : Basis → Standing → List SessionEvent → Type 0) (old new : Course) (s : S) (i : Option I) (o : Option O) (s' : S) (i' : Option I) (p : Story) : Type 0 where
    pub course : CourseDoes does old new p
    pub steps : StepsRun K (flat_map step_at course.events) s i o s' i' o

  -- what it does without a link, whatever the story, and whether it moved
  abbrev pub UnlinkedBy : (now : ℕ) (moved : Bool) (old new : Course) (s : S) (i : Option I) (o : Option O) (s' : S) (i' : Option I) → Story → Type 0
  UnlinkedBy now moved old new s i o s' i' p = HalvesDo (AndMoved moved (λ b t events. IsUnlinkedTurn b t now events)) old new s i o s' i' p

  -- a whole part without a link
  abbrev pub DialPartBy : (now : ℕ) (moved : Bool) (old new : Course) (s : S) (i : Option I) (o : Option O) (s' : S) (i' : Option I) → Story → Type 0
  DialPartBy now moved old new s i o s' i' p = HalvesDo (AndMoved moved (λ b t events. IsDialPart b t now events)) old new s i o s' i' p
