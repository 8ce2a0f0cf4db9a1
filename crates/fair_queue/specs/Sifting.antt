-- What one look of a receive that drops found, by the places of the ends (own choice).
use Rattle.std.specs.Prelude.{ℕ, List, Option}
use Rattle.zq_base.specs.Message.{Frames}
use Rattle.spec_pattern.specs.PipeStep.{PipeStep}
use Rattle.spec_pattern.specs.TurnList.{End}
use Rattle.spec_pattern.specs.Duty.{Duty}
use Rattle.spec_pattern.specs.Drops.{Given}
use Rattle.spec_pattern.specs.Dropping.{Receiving, DropsMore, GivesAt, FindsNone}
use Rattle.spec_pattern.specs.declared.answers.Rule.{Rule}
use Rattle.fair_queue.specs.declared.sifted.Sifted.{Sifted}
use Rattle.fair_queue.specs.declared.sifted.Sifted.TheVariants as look

-- if a look gives a message: of the place that it came from
abbrev pub IfGiven : Sifted → (ℕ → Type 0) → Type 0
IfGiven (look.Given place m) P = P place
IfGiven look.Dropped P = Unit {0}
IfGiven look.Empty P = Unit {0}

-- what holds unless a look gives a message
abbrev pub UnlessGiven : Sifted → Type 0 → Type 0
UnlessGiven (look.Given place m) P = Unit {0}
UnlessGiven look.Dropped P = P
UnlessGiven look.Empty P = P

module _ {S : Type 0} (runs : S → List PipeStep → S → Type 0) (ends : ℕ → End) (gives : End → Frames → Option Given) (rule : Rule) where
  -- what a look found; after a message is given this is under way
  abbrev pub Looks : Receiving S → Receiving S → Sifted → (ℕ → Duty) → Type 0
  Looks old new (look.Given place m) duty = GivesAt runs ends gives rule old new place m (duty place)
  Looks old new look.Dropped duty = DropsMore runs ends gives rule 1 old new
  Looks old new look.Empty duty = FindsNone runs ends gives rule old new
