-- What a worker does: its acts, each a step at a pipe or an item of the control plane, and its deeds (own choice).
use Rattle.std.specs.Prelude.{ℕ, Bool, List, [], ◌∷◌, ◌++◌, Option, Some, None, flat_map}
use Rattle.std.specs.List.{filter_map}
use Rattle.spec_pattern.specs.PipeStep.{PipeStep}
use Rattle.spec_pattern.specs.declared.answers.Skip.{Skip}
use Rattle.spec_control.specs.Moments.{Moment}
use Rattle.spec_run.specs.declared.answer.Answer.{Answer}
use Rattle.spec_run.specs.declared.script.Line.{Line}

pub data Act (N S : Type 0) : Type 0 where
  Step : PipeStep → Act N S
  Said : Moment N S → Act N S

-- a try of a line: what is done before each call of a socket, what the call does, the messages that it dropped, those that all tries of the line dropped so far, its answer, and whether the line is over with it
pub record Try (N S : Type 0) : Type 0 where
  pub line : Line
  pub pump : List (Act N S)
  pub call : List (Act N S)
  pub skips : List Skip
  pub told : List Skip
  pub answer : Answer
  pub over : Bool

pub data Deed (N S : Type 0) : Type 0 where
  -- an actor tries a line, and closes a socket that it has left
  Tries : Try N S → Deed N S
  Shuts : List (Act N S) → Deed N S
  -- the oldest letter of a mailbox is taken: by the reaper, or for an open socket by an event of its own
  Fetches : (slot : ℕ) → List (Act N S) → Deed N S
  -- the reaper finds all its mailboxes empty
  Idles : Moment N S → Deed N S
  -- an I/O worker's step
  Works : List (Act N S) → Deed N S
  -- the root is looked at, and is asked; the clock is read
  Looks : Moment N S → Deed N S
  AsksRoot : List (Act N S) → Deed N S
  Reads : (now : ℕ) → Deed N S

module _ {N S : Type 0} where
  abbrev pub pipe_step_of : Act N S → Option PipeStep
  pipe_step_of (Step step) = Some step
  pipe_step_of (Said m) = None

  abbrev pub moment_of : Act N S → Option (Moment N S)
  moment_of (Step step) = None
  moment_of (Said m) = Some m

  -- the pipe steps among acts, and the items
  abbrev pub steps_in : List (Act N S) → List PipeStep
  steps_in acts = filter_map pipe_step_of acts

  abbrev pub moments_in : List (Act N S) → List (Moment N S)
  moments_in acts = filter_map moment_of acts

  -- the acts of a deed, in order
  abbrev pub acts_of : Deed N S → List (Act N S)
  acts_of (Tries t) = t.pump ++ t.call
  acts_of (Shuts acts) = acts
  acts_of (Fetches slot acts) = acts
  acts_of (Idles m) = Said m ∷ []
  acts_of (Works acts) = acts
  acts_of (Looks m) = Said m ∷ []
  acts_of (AsksRoot acts) = acts
  acts_of (Reads now) = []

  abbrev pub all_acts : List (Deed N S) → List (Act N S)
  all_acts deeds = flat_map acts_of deeds
