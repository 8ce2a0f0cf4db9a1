-- Each call of a socket can be made (own choice: looks are exact where no threads are): whatever the steps past, some outcome of the call goes on from them.
use Rattle.std.specs.Prelude.{◌≡◌, ℕ, Bool, true, false, List, []}
use Rattle.zq_base.specs.Message.{Frames, IsMessage}
use Rattle.zq_base.specs.Ends.{PipeId}
use Rattle.spec_pattern.specs.PipeStep.{PipeStep, AreExact, sealed_in}
use Rattle.spec_pattern.specs.TurnList.{End}
use Rattle.spec_pattern.specs.Topics.{Topic}
use Rattle.spec_pattern.specs.Pattern.{Pattern}
use Rattle.spec_pattern.specs.PatternCalls.{Change}
use Rattle.spec_pattern.specs.Whole.{IsWhole}
use Rattle.spec_pattern.specs.Outcomes.{SendOutcome, RecvOutcome, ChangeOutcome, PumpOutcome, SendsSo, ReceivesSo, ChangesSo, PumpsSo}

-- the steps past are exact, and no pipe is sealed that can be written
pub record IsLive (c : PipeId → ℕ) (can_write : End → Bool) (past : List PipeStep) : Type 0 where
  pub exact : AreExact c [] past
  pub unsealed : (e : End) → can_write e ≡ true → sealed_in e past ≡ false

-- the steps go on from those past by looks that find what was left, and write no delimiter
pub record GoesOn (c : PipeId → ℕ) (past steps : List PipeStep) : Type 0 where
  pub exact : AreExact c past steps
  pub no_seal : (p : PipeId) → sealed_in p steps ≡ false

-- a call has an outcome that goes on from the steps past
pub record CallsHaveOutcomes : Type 0 where
  pub sends : (c : PipeId → ℕ) (past : List PipeStep) (can_write : End → Bool) (m : Frames)
      (old : Pattern)
      → IsLive c can_write past → IsMessage m → IsWhole old
      → (x : SendOutcome) × SendsSo can_write m old x × GoesOn c past x.steps
  pub receives : (c : PipeId → ℕ) (past : List PipeStep) (old : Pattern) → AreExact c [] past
      → IsWhole old
      → (x : RecvOutcome) × ReceivesSo old x × GoesOn c past x.steps
  pub changes : (c : PipeId → ℕ) (past : List PipeStep) (change : Change)
      (can_write : End → Bool) (topic : Topic) (old : Pattern)
      → IsLive c can_write past
      → (x : ChangeOutcome) × ChangesSo change can_write topic old x × GoesOn c past x.steps
  pub pumps : (c : PipeId → ℕ) (past : List PipeStep) (can_write : End → Bool) (old : Pattern)
      → IsLive c can_write past
      → (x : PumpOutcome) × PumpsSo can_write old x × GoesOn c past x.steps
