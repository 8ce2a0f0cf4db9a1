-- SUB and XSUB: what they tell their peers, and a subscription and a cancel, have one outcome.
use Rattle.std.proofs.Common.{◌≡◌, ◌∙◌, ℕ, List, [], ◌∷◌, ◌++◌, Bool, true, false, Option, Some, None, All, sym, subst, ap}
use Rattle.std.proofs.lemmas.Option.{same_Some}
use Rattle.std.specs.Map.{keys_of}
use Rattle.std.proofs.lemmas.List.Elements.{All-head, All-tail}
use Rattle.zq_base.specs.Ends.{PipeId}
use Rattle.spec_pattern.specs.PipeStep.{PipeStep, Commit, FullLook, AreExact}
use Rattle.spec_pattern.specs.TurnList.{End}
use Rattle.spec_pattern.specs.Topics.{Topic, Subscribers}
use Rattle.spec_pattern.specs.Wanted.{Wanted, wants, with_one_more, with_one_less, difference}
use Rattle.spec_pattern.specs.Subscribing.{Subscriber, tell_message, told_after, EndsTelling, TellsOn, TellsWhere, TellsAll, Tells, TellsWanted, SubAnswer, is_refused, SubscribesWhere, UnsubscribesWhere}
use Rattle.spec_pattern.specs.PatternCalls.{Change, Subscribe, Unsubscribe, Changes}
use Rattle.spec_pattern.proofs.StepLemmas.{SameEnd, IsSettled, in_parts, step_more, room_or_full}

-- telling a peer ends by one step, or none
end_told : (change : Option (ℕ × Topic)) (e : End) (xs ys : List PipeStep) → EndsTelling change e xs → EndsTelling change e ys → xs ≡ ys
end_told None e xs ys g h = g ∙ sym h
end_told (Some change) e xs ys g h = g ∙ sym h

-- a full pipe ends what could still be told
full_end : (change : Option (ℕ × Topic)) (one : ℕ × Topic) (e : End) (xs : List PipeStep) → change ≡ Some one → EndsTelling change e xs → xs ≡ FullLook e ∷ []
full_end None one e xs some ends = absurd (cc)
full_end (Some change) one e xs some ends = ends

-- what comes of a subscription or a cancel: the answer, and the subscriber after
abbrev pub ChangesBy : (List PipeStep → SubAnswer → Subscriber → Type 0) → List PipeStep → SubAnswer × Subscriber → Type 0
ChangesBy Step steps o = Step steps o.0 o.1

module _ (c d : PipeId → ℕ) where
  tells_on : (changes changes2 : List (ℕ × Topic)) (wanted : Wanted) (e : End) (told : List Topic) → c e ≡ d e → (past xs ys : List PipeStep) (a b : List Topic)
      → TellsOn wanted e told changes xs a → TellsOn wanted e told changes2 ys b → AreExact c past xs → AreExact d past ys → SameEnd xs a ys b
  tells_on [] [] wanted e told agree past xs ys a b g h x y =
      record { same_steps = end_told (difference told wanted) e xs ys g.0 h.0; same_end = g.1 ∙ sym h.1 }
  tells_on [] (change ∷ changes) wanted e told agree past xs ys a b g (is, rest, on, whole) x y =
      absurd (room_or_full d c past e (tell_message change) (sym agree) (subst (AreExact d past) whole y).0
      (subst (AreExact c past) (full_end (difference told wanted) change e xs is g.0) x).0)
  tells_on (change ∷ changes) [] wanted e told agree past xs ys a b (is, rest, on, whole) h x y =
      absurd (room_or_full c d past e (tell_message change) agree (subst (AreExact c past) whole x).0
      (subst (AreExact d past) (full_end (difference told wanted) change e ys is h.0) y).0)
  tells_on (change ∷ changes) (change2 ∷ changes2) wanted e told agree past xs ys a b (is, rest, on, whole) (is2, rest2, on2, whole2) x y =
      let same : change ≡ change2 = same_Some change change2 (sym is ∙ is2) in
      let there = subst (λ (z : ℕ × Topic). TellsOn wanted e (told_after z told) changes2 rest2 b) (sym same) on2 in
      step_more c d (λ t. t) past xs ys rest rest2 (Commit e (tell_message change)) (Commit e (tell_message change2)) a b (ap (λ (z : ℕ × Topic). Commit e (tell_message z)) same) whole whole2
      (λ u v. tells_on changes changes2 wanted e (told_after change told) agree (past ++ Commit e (tell_message change) ∷ []) rest rest2 a b on there u v) x y

  tells_where : (can : Bool) (wanted : Wanted) (e : End) (told : List Topic) → c e ≡ d e → IsSettled c d (TellsWhere can wanted e told)
  tells_where true wanted e told agree past xs ys a b (changes, g) (changes2, h) x y = tells_on changes changes2 wanted e told agree past xs ys a b g h x y
  tells_where false wanted e told agree past xs ys a b g h x y = record { same_steps = g.0 ∙ sym h.0; same_end = g.1 ∙ sym h.1 }

  tells_all : (w : End → Bool) (wanted : Wanted) (fs : Subscribers End) → All (λ e. c e ≡ d e) (keys_of fs) → IsSettled c d (TellsAll w wanted fs)
  tells_all w wanted [] agree past xs ys a b g h x y = record { same_steps = g.0 ∙ sym h.0; same_end = g.1 ∙ sym h.1 }
  tells_all w wanted (f ∷ fs) agree past xs ys a b (told, others, first, rest, one, on, whole, new) (told2, others2, first2, rest2, one2, on2, whole2, new2) x y =
      let both = in_parts c d (TellsWhere (w f.0) wanted f.0 f.1) (λ _. TellsAll w wanted fs rest2 others2)
      (tells_where (w f.0) wanted f.0 f.1 (All-head (λ e. c e ≡ d e) f.0 (keys_of fs) agree)) past xs ys first rest first2 rest2 told told2 others others2 whole whole2 one one2 on2
      (λ s u v. tells_all w wanted fs (All-tail (λ e. c e ≡ d e) f.0 (keys_of fs) agree) (past ++ first) rest rest2 others others2 on s u v) x y in
      record { same_steps = both.same_steps; same_end = new ∙ ap (λ (o : List Topic × Subscribers End). (f.0, o.0) ∷ o.1) both.same_end ∙ sym new2 }

  pub tells_settled : (w : End → Bool) (s : Subscriber) → All (λ e. c e ≡ d e) (keys_of s.followers) → IsSettled c d (Tells w s)
  tells_settled w s agree past xs ys a b g h x y =
      let one = tells_all w s.wanted s.followers agree past xs ys g.followers h.followers g.tells h.tells x y in
      record { same_steps = one.same_steps; same_end = g.new_is ∙ ap (λ (f : Subscribers End). record s { followers = f }) one.same_end ∙ sym h.new_is }

  wanted_settled : (w : End → Bool) (wanted : Wanted) (s : Subscriber) → All (λ e. c e ≡ d e) (keys_of s.followers) → (past xs ys : List PipeStep) (a b : SubAnswer) (new new2 : Subscriber)
      → a ≡ b → TellsWanted w wanted s xs new → TellsWanted w wanted s ys new2 → AreExact c past xs → AreExact d past ys → SameEnd {A = SubAnswer × Subscriber} xs (a, new) ys (b, new2)
  wanted_settled w wanted s agree past xs ys a b new new2 answer g h x y =
      let one = tells_settled w (record s { wanted = wanted }) agree past xs ys new new2 g h x y in
      record { same_steps = one.same_steps; same_end = λ i. (answer i, one.same_end i) }

  subscribes_settled : (refused : Bool) (w : End → Bool) (topic : Topic) (s : Subscriber) → All (λ e. c e ≡ d e) (keys_of s.followers) → IsSettled c d (ChangesBy (SubscribesWhere refused w topic s))
  subscribes_settled true w topic s agree past xs ys (a, new) (b, new2) g h x y =
      let answer = g.0 ∙ sym h.0 in
      let same = g.2 ∙ sym h.2 in
      record { same_steps = g.1 ∙ sym h.1; same_end = λ i. (answer i, same i) }
  subscribes_settled false w topic s agree past xs ys (a, new) (b, new2) g h x y =
      wanted_settled w (with_one_more topic s.wanted) s agree past xs ys a b new new2 (g.0 ∙ sym h.0) g.1 h.1 x y

  unsubscribes_settled : (wanted : Bool) (w : End → Bool) (topic : Topic) (s : Subscriber) → All (λ e. c e ≡ d e) (keys_of s.followers) → IsSettled c d (ChangesBy (UnsubscribesWhere wanted w topic s))
  unsubscribes_settled true w topic s agree past xs ys (a, new) (b, new2) g h x y =
      wanted_settled w (with_one_less topic s.wanted) s agree past xs ys a b new new2 (g.0 ∙ sym h.0) g.1 h.1 x y
  unsubscribes_settled false w topic s agree past xs ys (a, new) (b, new2) g h x y =
      let answer = g.0 ∙ sym h.0 in
      let same = g.2 ∙ sym h.2 in
      record { same_steps = g.1 ∙ sym h.1; same_end = λ i. (answer i, same i) }

  pub changes_settled : (change : Change) (w : End → Bool) (topic : Topic) (s : Subscriber) → All (λ e. c e ≡ d e) (keys_of s.followers) → IsSettled c d (ChangesBy (Changes change w topic s))
  changes_settled Subscribe w topic s agree past xs ys a b g h x y = subscribes_settled (is_refused s.wanted topic) w topic s agree past xs ys a b g h x y
  changes_settled Unsubscribe w topic s agree past xs ys a b g h x y = unsubscribes_settled (wants s.wanted topic) w topic s agree past xs ys a b g h x y
