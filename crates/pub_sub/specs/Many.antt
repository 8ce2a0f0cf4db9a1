-- A send to many peers, by their places (RFC 29, "The PUB Socket Type").
use Rattle.std.specs.Prelude.{ℕ, List, [], ◌∷◌, map}
use Rattle.zq_base.specs.Message.{Frames}
use Rattle.zq_base.specs.declared.ids.PairId.{PairId}
use Rattle.spec_pattern.specs.PipeStep.{PipeStep}
use Rattle.spec_pattern.specs.TurnList.{End}
use Rattle.spec_pattern.specs.Publishing.{SendsToMany}
use Rattle.spec_pattern.specs.declared.answers.Rule.TheVariants.{NoMatch, PubFull}
use Rattle.spec_pattern.specs.declared.answers.SendAnswer.{SendAnswer}
use Rattle.spec_pattern.specs.declared.answers.SendAnswer.TheVariants as sent

-- the pairs of the ends at these places
abbrev pub pairs_at : (ℕ → End) → List ℕ → List PairId
pairs_at ends places = map (λ p. (ends p).pair) places

-- what is answered where it went to these pairs, and these were full
abbrev pub answer_by : List PairId → List PairId → SendAnswer
answer_by [] [] = sent.Dropped NoMatch
answer_by [] (pair ∷ full) = sent.Dropped PubFull
answer_by (pair ∷ put) full = sent.Many (record { put = pair ∷ put; full = full })

-- the calls between the two states made the steps of a send to the ends at these places
pub record SendsMany {S : Type 0} (runs : S → List PipeStep → S → Type 0) (ends : ℕ → End) (m : Frames)
    (old new : S) (places : List ℕ) (answer : SendAnswer) : Type 0 where
  pub steps : List PipeStep
  pub runs_are : runs old steps new
  pub sends : SendsToMany m (map ends places) steps answer
