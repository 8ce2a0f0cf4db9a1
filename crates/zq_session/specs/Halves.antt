-- The two halves of a session's end, and the steps that it does at them (own choice).
use Rattle.std.specs.Prelude.{◌≡◌, false, List, [], ◌∷◌, Option, Some}
use Rattle.zq_base.specs.Message.{Frames}
use Rattle.spec_control.specs.declared.end.EndState.{EndState}
use Rattle.spec_pattern.specs.PipeStep.{PipeStep, Commit, FullLook, RoomLook, Take, EmptyLook, DelimiterLook, WaitingLook, Seal}
use Rattle.msg_pipe.specs.Known.{Known, IsThere, KeepsButIn, SeesCommits}
use Rattle.msg_pipe.specs.Told.{FrontFinds}
use Rattle.msg_pipe.specs.declared.pipes.Front.{Front}
use Rattle.msg_pipe.specs.declared.pipes.Front.TheVariants as front
use Rattle.msg_pipe.specs.declared.pipes.PutIn.TheVariants as put_in
use Rattle.msg_pipe.specs.declared.pipes.Taken.TheVariants as taken
use Rattle.spec_link.specs.LinkAct.{LinkAct, Wire, Step}
use Rattle.spec_link.specs.History.{SessionEvent, Given, Dialled, Acted, Closed, EndIs, Told, Tried, GaveUp, IsDue, Handed}
use Rattle.zq_session.specs.LifeView.{IsReadable, IsWritable}
use Rattle.link_side.specs.Calls.{TakeRun, PutRun}

-- the step at a pipe that an act is, where it is one
abbrev pub step_in : LinkAct → List PipeStep
step_in (Wire act) = []
step_in (Step step) = step ∷ []

-- the same of an event of a session
abbrev pub step_at : SessionEvent → List PipeStep
step_at Given = []
step_at (Dialled now answer) = []
step_at (Acted act) = step_in act
step_at (Closed now why) = []
step_at (EndIs state) = []
step_at (Told now) = []
step_at (Tried left) = []
step_at GaveUp = []
step_at (IsDue due) = []
step_at (Handed due) = []

module _ {S O I N : Type 0} (K : Known S O I N) where
  -- the reading half is there, and is of a pipe that is there
  abbrev pub ReadsThere : S → Option I → Type 0
  ReadsThere s i = (h : I) × (i ≡ Some h) × IsThere K s (K.in_name h)

  -- the writing half is there, its pipe is there, and it isn't sealed
  abbrev pub WritesThere : S → Option O → Type 0
  WritesThere s o = (h : O) × (o ≡ Some h) × (IsThere K s (K.out_name h) × ((K.writing s h).sealed ≡ false))

  -- each half is there while it is needed
  pub record AreThere (state : Option EndState) (s : S) (i : Option I) (o : Option O) : Type 0 where
    pub reads : IsReadable state → ReadsThere s i
    pub writes : IsWritable state → WritesThere s o

  -- a look at the front that takes nothing
  pub record FrontRun (s : S) (i : I) (found : Front) (s' : S) (i' : I) : Type 0 where
    pub finds : FrontFinds (K.reading s i) found (K.reading s' i')
    pub exact : SeesCommits K i i' found s s'
    pub keeps : KeepsButIn K i i' s s'

  -- one call at the reading half, or at the writing one
  pub record AtIn (run : I → I → Type 0) (i : Option I) (o : Option O) (i' : Option I) (o' : Option O) : Type 0 where
    pub old : I
    pub new : I
    pub was : i ≡ Some old
    pub is : i' ≡ Some new
    pub other : o' ≡ o
    pub runs : run old new

  pub record AtOut (run : O → O → Type 0) (i : Option I) (o : Option O) (i' : Option I) (o' : Option O) : Type 0 where
    pub old : O
    pub new : O
    pub was : o ≡ Some old
    pub is : o' ≡ Some new
    pub other : i' ≡ i
    pub runs : run old new

  -- one step
  abbrev pub StepRun : PipeStep → S → Option I → Option O → S → Option I → Option O → Type 0
  StepRun (Commit pipe m) s i o s' i' o' = AtOut (λ h k. PutRun K s h m put_in.Ok s' k) i o i' o'
  StepRun (FullLook pipe) s i o s' i' o' = AtOut (λ h k. (m : Frames) × PutRun K s h m (put_in.Full m) s' k) i o i' o'
  StepRun (RoomLook pipe) s i o s' i' o' = ⊥
  StepRun (Take pipe m) s i o s' i' o' = AtIn (λ h k. TakeRun K s h (taken.Item m) s' k) i o i' o'
  StepRun (EmptyLook pipe) s i o s' i' o' = AtIn (λ h k. TakeRun K s h taken.Empty s' k) i o i' o'
  StepRun (DelimiterLook pipe) s i o s' i' o' = AtIn (λ h k. TakeRun K s h taken.Delimiter s' k) i o i' o'
  StepRun (WaitingLook pipe) s i o s' i' o' = AtIn (λ h k. FrontRun s h front.Message s' k) i o i' o'
  StepRun (Seal pipe) s i o s' i' o' = ⊥

  -- one step after another
  abbrev pub StepsRun : List PipeStep → S → Option I → Option O → S → Option I → Option O → Type 0
  StepsRun [] s i o s' i' o' = (s' ≡ s) × ((i' ≡ i) × (o' ≡ o))
  StepsRun (step ∷ steps) s i o s' i' o' = (t : S) × (j : Option I) × (p : Option O) × StepRun step s i o t j p × StepsRun steps t j p s' i' o'
