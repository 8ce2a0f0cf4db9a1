-- The looks of a receive that drops what it doesn't give, by the places of the ends (own choice).
use Rattle.std.specs.Prelude.{◌≡◌, ◌≤◌, ℕ, List, ◌++◌, Option, Result, Ok, Err, length, map}
use Rattle.zq_base.specs.Message.{Frames}
use Rattle.spec_pattern.specs.PipeStep.{PipeStep}
use Rattle.spec_pattern.specs.TurnList.{End, NoneHasMessage}
use Rattle.spec_pattern.specs.Duty.{Duty}
use Rattle.spec_pattern.specs.Drops.{Round, Given, Drops, GivesOne, ReceivesDropping, most_drops}
use Rattle.spec_pattern.specs.declared.answers.Rule.{Rule}
use Rattle.spec_pattern.specs.declared.answers.Skip.{Skip}
use Rattle.spec_pattern.specs.declared.answers.RecvRefusal.{RecvRefusal}
use Rattle.spec_pattern.specs.declared.answers.RecvFault.{RecvFault}
use Rattle.spec_pattern.specs.declared.answers.RecvFault.TheVariants as fault
use Rattle.spec_pattern.specs.declared.answers.RecvAnswer.{RecvAnswer}
use Rattle.spec_pattern.specs.declared.answers.RecvAnswer.TheVariants as got

-- a socket that receives: its peers, its turns, and the drops that it told
pub record Receiving (S : Type 0) : Type 0 where
  pub peers : S
  pub turns : List ℕ
  pub told : List Skip

abbrev pub receiving : {S : Type 0} → S → List ℕ → List Skip → Receiving S
receiving peers turns told = record { peers = peers; turns = turns; told = told }

-- a message that is given, and what is under way then
abbrev pub with_duty : Duty → Frames → Given
with_duty duty m = record { message = m; duty = duty }

-- of a receive that drops: the place and the message that it gives, its refusal, or what holds where memory was wanting
abbrev pub MatchDropping : Result (ℕ × Frames) RecvFault → Type 0 → (ℕ → Frames → Type 0) → (RecvRefusal → Type 0) → Type 0
MatchDropping (Ok item) memory P Q = P item.0 item.1
MatchDropping (Err (fault.Refused refusal)) memory P Q = Q refusal
MatchDropping (Err fault.OutOfMemory) memory P Q = memory

module _ {S : Type 0} (runs : S → List PipeStep → S → Type 0) (ends : ℕ → End) (gives : End → Frames → Option Given) (rule : Rule) where
  -- so many messages were dropped, and told
  pub record DropsMore (count : ℕ) (old new : Receiving S) : Type 0 where
    pub steps : List PipeStep
    pub runs_are : runs old.peers steps new.peers
    pub dropped : List Round
    pub count_is : length dropped ≡ count
    pub skips : List Skip
    pub drops : Drops gives rule (map ends old.turns) dropped steps skips (map ends new.turns)
    pub told_are : new.told ≡ old.told ++ skips

  -- no more were dropped than one call drops
  pub record DropsFew (old new : Receiving S) : Type 0 where
    pub count : ℕ
    pub few : count ≤ most_drops
    pub drops : DropsMore count old new

  -- the message of the end at the place was given
  pub record GivesAt (old new : Receiving S) (place : ℕ) (m : Frames) (duty : Duty) : Type 0 where
    pub steps : List PipeStep
    pub runs_are : runs old.peers steps new.peers
    pub one : GivesOne gives (map ends old.turns) steps (got.Got (ends place).pair m) (map ends new.turns) duty
    pub told_are : new.told ≡ old.told

  -- none was left
  pub record FindsNone (old new : Receiving S) : Type 0 where
    pub steps : List PipeStep
    pub runs_are : runs old.peers steps new.peers
    pub none : NoneHasMessage (map ends old.turns) steps (map ends new.turns)
    pub told_are : new.told ≡ old.told

  -- a whole receive, with what was under way before it and what is after it
  pub record ReceivesOver (old new : Receiving S) (answer : RecvAnswer) (duty duty' : Duty) : Type 0 where
    pub steps : List PipeStep
    pub runs_are : runs old.peers steps new.peers
    pub skips : List Skip
    pub receives : ReceivesDropping gives rule (map ends old.turns) steps skips answer (map ends new.turns) duty duty'
    pub told_are : new.told ≡ old.told ++ skips
