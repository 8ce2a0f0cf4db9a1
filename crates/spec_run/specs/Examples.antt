-- Worked examples (own choice), so that a wrong rule in the definitions does not check.
use Rattle.std.specs.Prelude.{◌≡◌, ℕ, List, [], ◌∷◌, true, false, codes}
use Rattle.spec_run.specs.declared.script.Call.TheVariants as call
use Rattle.spec_run.specs.PartText.{parts_text}
use Rattle.spec_pattern.specs.PipeStep.{Commit, FullLook}
use Rattle.spec_pattern.specs.TurnList.{GoesOut}
use Rattle.spec_pattern.specs.declared.answers.Rule.TheVariants.{Stray, BadEnv}
use Rattle.spec_pattern.specs.declared.answers.RecvRefusal.TheVariants as recv
use Rattle.spec_run.specs.declared.answer.Answer.TheVariants as answer
use Rattle.spec_run.specs.Script.{line_tries, is_tried_again}
use Rattle.spec_run.specs.Turn.{IsOrder}
use Rattle.spec_run.specs.Text.{answer_text, skips_text, pipe_text}
use Rattle.spec_run.specs.TextParts.{pair_nr, end_a, end_b, open_to_all, got_from_1, skip_at}
use Rattle.spec_run.specs.ExamplesPipes.{Pipes}
use Rattle.spec_run.specs.ExamplesPeers.{TwoWays, RouterRules}
use Rattle.spec_run.specs.ExamplesDrops.{DropRules}
use Rattle.spec_run.specs.ExamplesTopics.{TopicRules}

-- the workers of a script of two actors
abbrev pub four_workers : List ℕ
four_workers = 0 ∷ 1 ∷ 2 ∷ 3 ∷ []

-- an empty part, one that is itself, and parts that would be read back as something else
abbrev pub parts_example : List (List ℕ)
parts_example = [] ∷ codes "a~" ∷ codes "-" ∷ codes "0x61" ∷ codes "a b" ∷ []

-- How an answer, a message's parts, messages that were dropped and a pipe are shown.
pub record Texts : Type 0 where
  pub object : answer_text (answer.Object (record { 0 = 21 })) ≡ codes "ok o21"
  pub pair : answer_text (answer.Pair (pair_nr 1)) ≡ codes "ok p1"
  pub waits : answer_text answer.Wait ≡ codes "wait"
  pub got : answer_text (got_from_1 (codes "a")) ≡ codes "msg p1 a"
  pub again : answer_text (answer.NotReceived recv.Again) ≡ codes "again"
  pub busy : answer_text (answer.NotReceived recv.Busy) ≡ codes "busy"
  pub copies : answer_text (answer.Many (record { put = pair_nr 1 ∷ pair_nr 3 ∷ []; full = pair_nr 2 ∷ [] })) ≡ codes "ok p1,p3 full p2"
  pub parts : parts_text parts_example ≡ codes " - a~ 0x2d 0x30783631 0x612062"
  pub drops : skips_text (skip_at BadEnv 1 ∷ skip_at Stray 20 ∷ []) ≡ codes " !badenv@p1 !stray@p20"
  pub pipe : pipe_text (end_b 12) ≡ codes "p12b"

-- Of four workers the seed 1 chooses number 2, then the first of those left, and again, and so it doesn't keep their order; the seed 0 does. A receive of two tries that finds nothing is tried again, and one that gets a message isn't.
pub record Orders : Type 0 where
  pub seed_1 : IsOrder 1 1 four_workers (2 ∷ 0 ∷ 1 ∷ 3 ∷ []) 7062582979898595269
  pub seed_0 : IsOrder 0 0 four_workers four_workers 0
  pub not_in_script_order : (after : ℕ) → IsOrder 1 1 four_workers four_workers after → ⊥
  pub tried_twice : line_tries (call.Recv 0 2) ≡ 2
  pub tried_again : is_tried_again (answer.NotReceived recv.Again) ≡ true
  pub got_at_once : is_tried_again (got_from_1 (codes "a")) ≡ false
  -- the first end is full, so the message goes to the second, and these two go behind the third
  pub next_end : GoesOut open_to_all (codes "a" ∷ []) (end_a 1 ∷ end_a 2 ∷ end_a 3 ∷ []) (FullLook (end_a 1) ∷ Commit (end_a 2) (codes "a" ∷ []) ∷ []) (pair_nr 2) (end_a 3 ∷ end_a 1 ∷ end_a 2 ∷ [])

-- the worked examples
pub record WorkedExamples : Type 0 where
  pub texts : Texts
  pub pipes : Pipes
  pub peers : TwoWays
  pub orders : Orders
  pub drops : DropRules
  pub routers : RouterRules
  pub topics : TopicRules
