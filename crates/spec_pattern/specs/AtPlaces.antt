-- A send and a receive of a socket over its attached ends, by their places (zmq_socket(3): "round-robin" sending, "fair-queued" receiving).
use Rattle.std.specs.Prelude.{◌≡◌, ℕ, Bool, List, map, All}
use Rattle.zq_base.specs.Message.{Frames}
use Rattle.zq_base.specs.declared.kind.Kind.{Kind}
use Rattle.spec_pattern.specs.PipeStep.{PipeStep}
use Rattle.spec_pattern.specs.TurnList.{End}
use Rattle.spec_pattern.specs.Call.{SendStep, RecvStep}
use Rattle.spec_pattern.specs.declared.answers.SendAnswer.{SendAnswer}
use Rattle.spec_pattern.specs.declared.answers.RecvAnswer.{RecvAnswer}

-- the test says of the end at each of these places whether it can be written
abbrev pub TellsWritable : (End → Bool) → (ℕ → End) → (ℕ → Bool) → List ℕ → Type 0
TellsWritable can_write ends writable places = All (λ place. can_write (ends place) ≡ writable place) places

module _ {S : Type 0} (runs : S → List PipeStep → S → Type 0) (ends : ℕ → End) where
  -- the calls between the two states made the steps of a send of a socket of the kind, with these turns before and after it
  pub record Sends (writable : ℕ → Bool) (kind : Kind) (m : Frames) (old new : S) (turns : List ℕ) (answer : SendAnswer) (turns' : List ℕ) : Type 0 where
    pub steps : List PipeStep
    pub runs_are : runs old steps new
    pub step : (can_write : End → Bool) → TellsWritable can_write ends writable turns → SendStep kind can_write m (map ends turns) steps answer (map ends turns')

  -- the calls between the two states made the steps of a receive of a socket of the kind
  pub record Receives (kind : Kind) (old new : S) (turns : List ℕ) (answer : RecvAnswer) (turns' : List ℕ) : Type 0 where
    pub steps : List PipeStep
    pub runs_are : runs old steps new
    pub step : RecvStep kind (map ends turns) steps answer (map ends turns')
