-- What a socket of any kind does is settled by what it is asked, by its state, and by the steps past (own choice: looks are exact where no threads are).
-- In each law the capacities are those of two runs, which need agree only at the ends that are written.
use Rattle.std.specs.Prelude.{◌≡◌, ℕ, Bool, List, ◌++◌, All}
use Rattle.zq_base.specs.Message.{Frames}
use Rattle.zq_base.specs.Ends.{PipeId}
use Rattle.spec_pattern.specs.PipeStep.{PipeStep, AreExact}
use Rattle.spec_pattern.specs.TurnList.{End}
use Rattle.spec_pattern.specs.Topics.{Topic}
use Rattle.spec_pattern.specs.Pattern.{Pattern}
use Rattle.spec_pattern.specs.PatternCalls.{Change}
use Rattle.spec_pattern.specs.Peers.{written_ends, kept_ends, peer_names, HaveOneName}
use Rattle.spec_pattern.specs.Outcomes.{SendOutcome, RecvOutcome, ChangeOutcome, PumpOutcome, SendsSo, ReceivesSo, ChangesSo, PumpsSo}

-- two capacities agree at each of these ends
abbrev pub AgreeOn : (PipeId → ℕ) → (PipeId → ℕ) → List End → Type 0
AgreeOn c d ends = All (λ e. c e ≡ d e) ends

-- both lists of steps go on from the steps past, by looks that find what was left
pub record GoOn (c d : PipeId → ℕ) (past xs ys : List PipeStep) : Type 0 where
  pub one : AreExact c past xs
  pub other : AreExact d past ys

-- ---- one call

-- two outcomes of one send are one
abbrev pub ASendHasOneOutcome : Type 0
ASendHasOneOutcome = (c d : PipeId → ℕ) (past : List PipeStep) (can_write : End → Bool)
    (m : Frames) (old : Pattern)
    (x y : SendOutcome) → AgreeOn c d (written_ends old)
    → SendsSo can_write m old x → SendsSo can_write m old y → GoOn c d past x.steps y.steps → x ≡ y

-- two outcomes of one receive are one, where no peer of a ROUTER has two names
abbrev pub AReceiveHasOneOutcome : Type 0
AReceiveHasOneOutcome = (c d : PipeId → ℕ) (past : List PipeStep) (old : Pattern)
    (x y : RecvOutcome) → HaveOneName (peer_names old)
    → ReceivesSo old x → ReceivesSo old y → GoOn c d past x.steps y.steps → x ≡ y

-- two outcomes of one subscription, or of one cancel, are one
abbrev pub AChangeHasOneOutcome : Type 0
AChangeHasOneOutcome = (c d : PipeId → ℕ) (past : List PipeStep) (change : Change)
    (can_write : End → Bool) (topic : Topic) (old : Pattern)
    (x y : ChangeOutcome) → AgreeOn c d (written_ends old)
    → ChangesSo change can_write topic old x → ChangesSo change can_write topic old y
    → GoOn c d past x.steps y.steps → x ≡ y

-- two outcomes of what is heard, or told, before a call are one
abbrev pub APumpHasOneOutcome : Type 0
APumpHasOneOutcome = (c d : PipeId → ℕ) (past : List PipeStep) (can_write : End → Bool)
    (old : Pattern)
    (x y : PumpOutcome) → AgreeOn c d (written_ends old)
    → PumpsSo can_write old x → PumpsSo can_write old y → GoOn c d past x.steps y.steps → x ≡ y

-- ---- a call, and what was heard or told before it

-- two outcomes of both are one
pub record PumpedCallsHaveOneOutcome : Type 0 where
  pub sends : (c d : PipeId → ℕ) (past : List PipeStep) (can_write : End → Bool) (m : Frames)
      (old : Pattern)
      (p q : PumpOutcome) (x y : SendOutcome) → AgreeOn c d (kept_ends old)
      → PumpsSo can_write old p → PumpsSo can_write old q → SendsSo can_write m p.new x
      → SendsSo can_write m q.new y
      → GoOn c d past (p.steps ++ x.steps) (q.steps ++ y.steps) → (p ≡ q) × (x ≡ y)
  pub receives : (c d : PipeId → ℕ) (past : List PipeStep) (can_write : End → Bool) (old : Pattern)
      (p q : PumpOutcome) (x y : RecvOutcome) → AgreeOn c d (kept_ends old)
      → HaveOneName (peer_names old)
      → PumpsSo can_write old p → PumpsSo can_write old q → ReceivesSo p.new x → ReceivesSo q.new y
      → GoOn c d past (p.steps ++ x.steps) (q.steps ++ y.steps) → (p ≡ q) × (x ≡ y)
  pub changes : (c d : PipeId → ℕ) (past : List PipeStep) (change : Change)
      (can_write : End → Bool) (topic : Topic) (old : Pattern)
      (p q : PumpOutcome) (x y : ChangeOutcome) → AgreeOn c d (kept_ends old)
      → PumpsSo can_write old p → PumpsSo can_write old q
      → ChangesSo change can_write topic p.new x → ChangesSo change can_write topic q.new y
      → GoOn c d past (p.steps ++ x.steps) (q.steps ++ y.steps) → (p ≡ q) × (x ≡ y)
