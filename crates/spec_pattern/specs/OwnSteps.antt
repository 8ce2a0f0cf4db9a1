-- At which pipes a call steps (zmq_socket(3)): it writes to peers that it may write, and reads from those in its turns.
use Rattle.std.specs.Prelude.{◌≡◌, Bool, true, All, Contains}
use Rattle.zq_base.specs.Message.{Frames}
use Rattle.spec_pattern.specs.PipeStep.{PipeStep, Commit, FullLook, RoomLook, Take, EmptyLook, DelimiterLook, WaitingLook, Seal, read_through}
use Rattle.spec_pattern.specs.TurnList.{End}
use Rattle.spec_pattern.specs.Topics.{Topic}
use Rattle.spec_pattern.specs.Pattern.{Pattern}
use Rattle.spec_pattern.specs.PatternCalls.{Change}
use Rattle.spec_pattern.specs.Peers.{in_turns, written_ends}
use Rattle.spec_pattern.specs.Outcomes.{SendOutcome, RecvOutcome, ChangeOutcome, PumpOutcome, SendsSo, ReceivesSo, ChangesSo, PumpsSo}

-- a step commits or finds no room at an end that is written, or takes or finds no message at one that is read; it is no other
abbrev pub IsStepAt : (End → Type 0) → (End → Type 0) → PipeStep → Type 0
IsStepAt Writes Reads (Commit e m) = Writes e
IsStepAt Writes Reads (FullLook e) = Writes e
IsStepAt Writes Reads (RoomLook e) = ⊥
IsStepAt Writes Reads (Take p m) = (e : End) × Reads e × (p ≡ read_through e)
IsStepAt Writes Reads (EmptyLook p) = (e : End) × Reads e × (p ≡ read_through e)
IsStepAt Writes Reads (DelimiterLook p) = (e : End) × Reads e × (p ≡ read_through e)
IsStepAt Writes Reads (WaitingLook p) = ⊥
IsStepAt Writes Reads (Seal p) = ⊥

-- an end that a call of the socket may write and that can be written, one in its turns for receiving, and none
abbrev pub MayWrite : (End → Bool) → Pattern → End → Type 0
MayWrite can_write old e = Contains (written_ends old) e × (can_write e ≡ true)

abbrev pub MayRead : Pattern → End → Type 0
MayRead old e = Contains (in_turns old) e

abbrev pub NoEnd : End → Type 0
NoEnd e = ⊥

-- a send and a change of topics write, a receive reads, and what comes before a call does either
pub record CallsStepAtOwnEnds : Type 0 where
  pub sends : (can_write : End → Bool) (m : Frames) (old : Pattern) (x : SendOutcome)
      → SendsSo can_write m old x
      → All (IsStepAt (MayWrite can_write old) NoEnd) x.steps
  pub receives : (old : Pattern) (x : RecvOutcome) → ReceivesSo old x
      → All (IsStepAt NoEnd (MayRead old)) x.steps
  pub changes : (change : Change) (can_write : End → Bool) (topic : Topic) (old : Pattern)
      (x : ChangeOutcome)
      → ChangesSo change can_write topic old x
      → All (IsStepAt (MayWrite can_write old) NoEnd) x.steps
  pub pumps : (can_write : End → Bool) (old : Pattern) (x : PumpOutcome) → PumpsSo can_write old x
      → All (IsStepAt (MayWrite can_write old) (MayRead old)) x.steps
