-- Worked examples of a PUSH, a PULL and a pipe of capacity 2 between them: it takes two messages and no third, and gives them in order.
use Rattle.std.specs.Prelude.{List, [], ◌∷◌, codes}
use Rattle.spec_pattern.specs.PipeStep.{PipeStep, Commit, FullLook, Take, EmptyLook, AreExact}
use Rattle.spec_pattern.specs.Pattern.{Pattern, Push, Pull}
use Rattle.spec_pattern.specs.PatternCalls.{PatternSends, PatternReceives}
use Rattle.spec_pattern.specs.declared.answers.SendRefusal.TheVariants as send
use Rattle.spec_pattern.specs.declared.answers.RecvRefusal.TheVariants as recv
use Rattle.spec_pattern.specs.declared.answers.SendAnswer.TheVariants as sent
use Rattle.spec_pattern.specs.declared.answers.RecvAnswer.TheVariants as got
use Rattle.spec_run.specs.TextParts.{pair_nr, end_a, end_b, open_to_all}

-- a PUSH and a PULL that are joined by pair 1
abbrev pub push : Pattern
push = Push (end_a 1 ∷ [])

abbrev pub pull : Pattern
pull = Pull (end_b 1 ∷ [])

-- two messages go out, the third finds the pipe full, one is taken, and the third goes out
abbrev pub narrow_steps : List PipeStep
narrow_steps =
    Commit (end_a 1) (codes "a" ∷ []) ∷ Commit (end_a 1) (codes "b" ∷ []) ∷ FullLook (end_a 1)
    ∷ Take (end_a 1) (codes "a" ∷ []) ∷ Commit (end_a 1) (codes "c" ∷ []) ∷ []

-- three messages committed, with none taken
abbrev pub three_commits : List PipeStep
three_commits = Commit (end_a 1) (codes "a" ∷ []) ∷ Commit (end_a 1) (codes "b" ∷ []) ∷ Commit (end_a 1) (codes "c" ∷ []) ∷ []

-- a look that found nothing behind a message committed
abbrev pub early_empty_look : List PipeStep
early_empty_look = Commit (end_a 1) (codes "a" ∷ []) ∷ EmptyLook (end_a 1) ∷ []

-- the second message taken before the first
abbrev pub later_first : List PipeStep
later_first = Commit (end_a 1) (codes "a" ∷ []) ∷ Commit (end_a 1) (codes "b" ∷ []) ∷ Take (end_a 1) (codes "b" ∷ []) ∷ []

-- The PUSH sends while there is room, and the PULL receives while there is a message. The pipe does as it should, and not otherwise.
pub record Pipes : Type 0 where
  pub sends : PatternSends open_to_all (codes "a" ∷ []) push (Commit (end_a 1) (codes "a" ∷ []) ∷ []) (sent.One (pair_nr 1)) push
  pub finds_full : PatternSends open_to_all (codes "c" ∷ []) push (FullLook (end_a 1) ∷ []) (sent.Refused send.Again) push
  pub receives : PatternReceives pull (Take (end_a 1) (codes "a" ∷ []) ∷ []) [] (got.Got (pair_nr 1) (codes "a" ∷ [])) pull
  pub finds_empty : PatternReceives pull (EmptyLook (end_a 1) ∷ []) [] (got.Refused recv.Again) pull
  pub narrow : AreExact (λ _. 2) [] narrow_steps
  pub no_room : AreExact (λ _. 2) [] three_commits → ⊥
  pub not_empty : AreExact (λ _. 2) [] early_empty_look → ⊥
  pub not_the_oldest : AreExact (λ _. 2) [] later_first → ⊥
