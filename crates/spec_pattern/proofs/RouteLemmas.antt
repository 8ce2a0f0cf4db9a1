-- A message to one named peer, or to one that asked, has one outcome.
use Rattle.std.proofs.Common.{◌≡◌, ◌∙◌, inl, inr, ℕ, Bool, true, false, Option, Some, None, refl, sym, subst}
use Rattle.zq_base.specs.Message.{Frames}
use Rattle.zq_base.specs.Ends.{PipeId}
use Rattle.spec_pattern.specs.PipeStep.{AreExact}
use Rattle.spec_pattern.specs.TurnList.{End}
use Rattle.spec_pattern.specs.Routes.{GoesTo, Routes}
use Rattle.spec_pattern.specs.declared.answers.SendAnswer.{SendAnswer}
use Rattle.spec_pattern.proofs.StepLemmas.{IsSettled, room_or_full}

module _ (c d : PipeId → ℕ) (missing full : SendAnswer) where
  goes_settled : (can : Bool) (m : Frames) (e : End) → c e ≡ d e → IsSettled c d (GoesTo missing full m e can)
  goes_settled false m e agree past xs ys a b g h x y = record { same_steps = g.0 ∙ sym h.0; same_end = g.1 ∙ sym h.1 }
  goes_settled true m e agree past xs ys a b (inl (is, at)) (inl (is2, at2)) x y = record { same_steps = is ∙ sym is2; same_end = at ∙ sym at2 }
  goes_settled true m e agree past xs ys a b (inr (is, at)) (inr (is2, at2)) x y = record { same_steps = is ∙ sym is2; same_end = at ∙ sym at2 }
  goes_settled true m e agree past xs ys a b (inl (is, at)) (inr (is2, at2)) x y =
      absurd (room_or_full d c past e m (sym agree) (subst (AreExact d past) is2 y).0 (subst (AreExact c past) is x).0)
  goes_settled true m e agree past xs ys a b (inr (is, at)) (inl (is2, at2)) x y =
      absurd (room_or_full c d past e m agree (subst (AreExact c past) is x).0 (subst (AreExact d past) is2 y).0)

  pub routes_settled : (w : End → Bool) (m : Frames) (peer : Option End) → ((e : End) → peer ≡ Some e → c e ≡ d e) → IsSettled c d (Routes missing full w m peer)
  routes_settled w m None agree past xs ys a b g h x y = record { same_steps = g.0 ∙ sym h.0; same_end = g.1 ∙ sym h.1 }
  routes_settled w m (Some e) agree past xs ys a b g h x y = goes_settled (w e) m e (agree e refl) past xs ys a b g h x y
