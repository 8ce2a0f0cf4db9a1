-- What a turn took, as the step of a socket.
use Rattle.std.proofs.Common.{◌≡◌, ℕ, List, map}
use Rattle.zq_base.specs.Message.{Frames}
use Rattle.zq_base.specs.declared.ids.PairId.{PairId}
use Rattle.zq_base.specs.declared.kind.Kind.TheVariants.{Pull, Pair, Dealer}
use Rattle.spec_pattern.specs.PipeStep.{PipeStep}
use Rattle.spec_pattern.specs.TurnList.{End}
use Rattle.spec_pattern.specs.AtPlaces.{Receives}
use Rattle.spec_pattern.specs.declared.answers.RecvAnswer.{RecvAnswer}
use Rattle.spec_pattern.specs.declared.answers.RecvAnswer.TheVariants as got
use Rattle.spec_pattern.proofs.AtPlacesLemmas.{ends_around, ends_turned}
use Rattle.fair_queue.specs.FairQueue.{ReceivesByTurn}
use Rattle.fair_queue.specs.declared.turn.NextIn.TheVariants as next

module _ {S : Type 0} (runs : S → List PipeStep → S → Type 0) (ends : ℕ → End) (old new : S) (turns turns' : List ℕ) where
  -- a message was taken
  pub Receives-taken : (m : Frames) (place : ℕ) (from_ : PairId) → ReceivesByTurn runs ends old new turns (next.Got place m) turns'
      → from_ ≡ (ends place).pair → Receives runs ends Pull old new turns (got.Got from_ m) turns'
  Receives-taken m place from_ turn from_is =
      let s = turn.next in
      record {
        steps = turn.steps;
        runs_are = turn.runs_are;
        step = record {
          before = map ends s.before;
          peer = ends place;
          after = map ends s.after;
          looks = s.looks;
          turns_are = ends_around ends s.before s.after turns place s.turns_are;
          looks_are = s.looks_are;
          steps_are = s.steps_are;
          from_is = from_is;
          new_is = ends_turned ends s.before s.after turns' place s.new_is;
        };
      }

  -- a PAIR and a DEALER receive as a PULL does
  pub Receives-pair : (answer : RecvAnswer) → Receives runs ends Pull old new turns answer turns' → Receives runs ends Pair old new turns answer turns'
  Receives-pair answer r = record { steps = r.steps; runs_are = r.runs_are; step = r.step }

  pub Receives-dealer : (answer : RecvAnswer) → Receives runs ends Pull old new turns answer turns' → Receives runs ends Dealer old new turns answer turns'
  Receives-dealer answer r = record { steps = r.steps; runs_are = r.runs_are; step = r.step }
