-- A turn of a session and its parts, whatever happened before (own choice).
use Rattle.std.specs.Prelude.{ℕ, List, Option, Some, None}
use Rattle.std.specs.List.{flat_map}
use Rattle.msg_pipe.specs.Known.{Known}
use Rattle.zq_outer.specs.Host.{IsNew}
use Rattle.spec_link.specs.LinkAct.{LinkAct, said_of, heard_of}
use Rattle.spec_link.specs.History.{Basis, SessionEvent, Standing}
use Rattle.zq_session.specs.declared.course.Course.{Course}
use Rattle.link_side.specs.Calls.{Adds}
use Rattle.zq_session.specs.Lives.{Story, basis_of, standing_of}
use Rattle.zq_session.specs.Halves.{StepsRun, step_at}
use Rattle.zq_session.specs.Shown.{ShownBy}
use Rattle.zq_session.specs.Courses.{CourseStep, act_at}

module _ {L : Type 0} (heard said : L → Option (List ℕ)) (faults stalls ends : L → ℕ) where
  -- what a link tells behind these acts: more octets, and by its counts how they were answered
  pub record TellsBy (old : L) (acts : List LinkAct) (new : L) : Type 0 where
    pub said_is : Adds (said old) (said_of acts) (said new)
    pub heard_is : Adds (heard old) (heard_of acts) (heard new)
    pub shown_is : ShownBy faults stalls ends old new acts

  -- what a session's link tells: that, where it was there, also until it was let go; nothing yet, where it is new
  abbrev pub IsToldBy : Option L → List LinkAct → Option L → Type 0
  IsToldBy None acts None = Unit {0}
  IsToldBy None acts (Some new) = IsNew (heard new) (said new)
  IsToldBy (Some old) acts None = (last : L) × TellsBy old acts last
  IsToldBy (Some old) acts (Some new) = TellsBy old acts new

module _ {S O I N L : Type 0} (K : Known S O I N) (heard said : L → Option (List ℕ)) (faults stalls ends : L → ℕ) where
  -- a turn, or a part of one, whatever the story: it did this
  pub record DoesBy (does : Basis → Standing → ℕ → List SessionEvent → Type 0) (now : ℕ) (old new : Course) (link link' : Option L) (s : S) (i : Option I) (o : Option O) (s' : S) (i' : Option I) (o' : Option O) (p : Story) : Type 0 where
    pub events : List SessionEvent
    pub did : does (basis_of old.life p) (standing_of old.life p) now events
    pub step : CourseStep old new p events
    pub steps : StepsRun K (flat_map step_at events) s i o s' i' o'
    pub told : IsToldBy heard said faults stalls ends link (flat_map act_at events) link'
