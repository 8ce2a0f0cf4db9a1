-- PUB and XPUB: a send, what they hear and what an XPUB gives have one outcome.
use Rattle.std.proofs.Common.{◌≡◌, ◌∙◌, inl, inr, ℕ, suc, List, [], ◌∷◌, ◌++◌, Bool, true, false, All, length, nat_le, refl, sym, subst, ap, true≢false}
use Rattle.std.specs.Map.{keys_of}
use Rattle.std.proofs.lemmas.List.Elements.{All-head, All-tail, All-nil, All-filter}
use Rattle.zq_base.specs.Message.{Frames, max_committed}
use Rattle.zq_base.specs.Ends.{PipeId}
use Rattle.spec_pattern.specs.PipeStep.{PipeStep, Commit, FullLook, AreExact, same_pipe}
use Rattle.spec_pattern.specs.TurnList.{End}
use Rattle.spec_pattern.specs.Drops.{Round}
use Rattle.spec_pattern.specs.Topics.{Subscribers, matches, topics_of, matching}
use Rattle.spec_pattern.specs.Publishing.{Publisher, heard, stops_hearing, EndsHearing, HearsFrom, Hears, Offers, many_answer, SendsToMany, takers, PublishesWhere, PubSends}
use Rattle.spec_pattern.proofs.StepLemmas.{SameEnd, IsSettled, end_as, exact_front, in_parts, step_more, room_or_full}
use Rattle.spec_pattern.proofs.InLemmas.{ComesBy, comes_settled, comes_or_none, none_settled}

-- those that a message was put to, and those that were full
pub record Split : Type 0 where
  pub put : List End
  pub full : List End

abbrev pub OffersBy : Frames → List End → List PipeStep → Split → Type 0
OffersBy m ends steps s = Offers m ends steps s.put s.full

abbrev pub put_to : End → Split → Split
put_to e s = record { put = e ∷ s.put; full = s.full }

abbrev pub full_at : End → Split → Split
full_at e s = record { put = s.put; full = e ∷ s.full }

one_split : (a b : Split) → a.put ≡ b.put → a.full ≡ b.full → a ≡ b
one_split a b p f = λ i. record { put = p i; full = f i }

-- what a publisher heard: the messages, and itself after
pub record Heard : Type 0 where
  pub rounds : List Round
  pub new : Publisher

abbrev HearsBy : ℕ → Publisher → List Round → List PipeStep → Publisher → Type 0
HearsBy count p rs steps new = HearsFrom count p rs steps new

abbrev heard_first : Round → Heard → Heard
heard_first r h = record { rounds = r ∷ h.rounds; new = h.new }

one_heard : (rs : List Round) (new new2 : Publisher) → new ≡ new2 → ◌≡◌ {A = Heard} (record { rounds = rs; new = new }) (record { rounds = rs; new = new2 })
one_heard rs new new2 same = λ i. record { rounds = rs; new = same i }

-- a publisher that hears nothing more hears no further message
ends_or_hears : (c d : PipeId → ℕ) (stops : Bool) (count : ℕ) (p : Publisher) (r : Round) (rs : List Round) (past xs ys : List PipeStep) (new new2 : Publisher)
    → stops_hearing count p ≡ stops → EndsHearing stops p xs new → HearsFrom count p (r ∷ rs) ys new2 → AreExact c past xs → AreExact d past ys → ⊥
ends_or_hears c d true count p r rs past xs ys new new2 stops ends hears x y = true≢false (sym stops ∙ hears.0)
ends_or_hears c d false count p r rs past xs ys new new2 stops (turns, none, is) (on, mid, first, rest, comes, others, whole) x y =
    comes_or_none d c p.ins past first xs r mid turns comes none (exact_front d past first rest (subst (AreExact d past) whole y)) x

module _ (c d : PipeId → ℕ) where
  offers_settled : (m : Frames) (ends : List End) → All (λ e. c e ≡ d e) ends → IsSettled c d (OffersBy m ends)
  offers_settled m [] agree past xs ys a b g h x y = record { same_steps = g.0 ∙ sym h.0; same_end = one_split a b (g.1 ∙ sym h.1) (g.2 ∙ sym h.2) }
  offers_settled m (e ∷ es) agree past xs ys a b (rest, put, full, on, inl (is, put_is, full_is)) (rest2, put2, full2, on2, inl (is2, put_is2, full_is2)) x y =
      let one = step_more c d (put_to e) past xs ys rest rest2 (Commit e m) (Commit e m) (record { put = put; full = full }) (record { put = put2; full = full2 }) refl is is2
      (λ u v. offers_settled m es (All-tail (λ k. c k ≡ d k) e es agree) (past ++ Commit e m ∷ []) rest rest2 _ _ on on2 u v) x y in
      record { same_steps = one.same_steps; same_end = one_split a (record { put = e ∷ put; full = full }) put_is full_is ∙ one.same_end ∙ sym (one_split b (record { put = e ∷ put2; full = full2 }) put_is2 full_is2) }
  offers_settled m (e ∷ es) agree past xs ys a b (rest, put, full, on, inr (is, put_is, full_is)) (rest2, put2, full2, on2, inr (is2, put_is2, full_is2)) x y =
      let one = step_more c d (full_at e) past xs ys rest rest2 (FullLook e) (FullLook e) (record { put = put; full = full }) (record { put = put2; full = full2 }) refl is is2
      (λ u v. offers_settled m es (All-tail (λ k. c k ≡ d k) e es agree) (past ++ FullLook e ∷ []) rest rest2 _ _ on on2 u v) x y in
      record { same_steps = one.same_steps; same_end = one_split a (record { put = put; full = e ∷ full }) put_is full_is ∙ one.same_end ∙ sym (one_split b (record { put = put2; full = e ∷ full2 }) put_is2 full_is2) }
  offers_settled m (e ∷ es) agree past xs ys a b (rest, put, full, on, inl (is, put_is, full_is)) (rest2, put2, full2, on2, inr (is2, put_is2, full_is2)) x y =
      absurd (room_or_full c d past e m (All-head (λ k. c k ≡ d k) e es agree) (subst (AreExact c past) is x).0 (subst (AreExact d past) is2 y).0)
  offers_settled m (e ∷ es) agree past xs ys a b (rest, put, full, on, inr (is, put_is, full_is)) (rest2, put2, full2, on2, inl (is2, put_is2, full_is2)) x y =
      absurd (room_or_full d c past e m (sym (All-head (λ k. c k ≡ d k) e es agree)) (subst (AreExact d past) is2 y).0 (subst (AreExact c past) is x).0)

  -- a message to many has one outcome
  pub many_settled : (m : Frames) (ends : List End) → All (λ e. c e ≡ d e) ends → IsSettled c d (SendsToMany m ends)
  many_settled m ends agree past xs ys a b g h x y =
      let one = offers_settled m ends agree past xs ys (record { put = g.put; full = g.full }) (record { put = h.put; full = h.full }) g.offers h.offers x y in
      record { same_steps = one.same_steps; same_end = g.answer_is ∙ ap (λ (s : Split). many_answer s.put s.full) one.same_end ∙ sym h.answer_is }

  takers_agree : (w : End → Bool) (subs : Subscribers End) (m : Frames) → All (λ e. c e ≡ d e) (keys_of subs) → All (λ e. c e ≡ d e) (takers w subs m)
  takers_agree w subs [] agree = All-nil (λ e. c e ≡ d e)
  takers_agree w subs (frame ∷ frames) agree =
      All-filter w (λ e. c e ≡ d e) (matching same_pipe subs frame) (All-filter (λ p. matches (topics_of same_pipe subs p) frame) (λ e. c e ≡ d e) (keys_of subs) agree)

  publishes_settled : (fits : Bool) (w : End → Bool) (subs : Subscribers End) (m : Frames) → All (λ e. c e ≡ d e) (keys_of subs) → IsSettled c d (PublishesWhere fits w subs m)
  publishes_settled true w subs m agree past xs ys a b g h x y = many_settled m (takers w subs m) (takers_agree w subs m agree) past xs ys a b g h x y
  publishes_settled false w subs m agree past xs ys a b g h x y = record { same_steps = g.1 ∙ sym h.1; same_end = g.0 ∙ sym h.0 }

  pub pub_send_settled : (w : End → Bool) (m : Frames) (p : Publisher) → All (λ e. c e ≡ d e) (keys_of p.subs) → IsSettled c d (PubSends w m p)
  pub_send_settled w m p agree past xs ys a b g h x y = publishes_settled (nat_le (length m) max_committed) w p.subs m agree past xs ys a b g h x y

  -- hearing
  ends_settled : (stops : Bool) (p : Publisher) → IsSettled c d (EndsHearing stops p)
  ends_settled true p past xs ys a b g h x y = record { same_steps = g.0 ∙ sym h.0; same_end = g.1 ∙ sym h.1 }
  ends_settled false p past xs ys a b (turns, none, is) (turns2, none2, is2) x y =
      let one = none_settled c d p.ins past xs ys turns turns2 none none2 x y in
      record { same_steps = one.same_steps; same_end = is ∙ ap (λ (t : List End). record p { ins = t }) one.same_end ∙ sym is2 }

  pub hears_settled : (rs rs2 : List Round) (count : ℕ) (p : Publisher) (past xs ys : List PipeStep) (new new2 : Publisher) → HearsFrom count p rs xs new → HearsFrom count p rs2 ys new2
      → AreExact c past xs → AreExact d past ys → SameEnd {A = Heard} xs (record { rounds = rs; new = new }) ys (record { rounds = rs2; new = new2 })
  hears_settled [] [] count p past xs ys new new2 g h x y =
      let one = ends_settled (stops_hearing count p) p past xs ys new new2 g h x y in
      record { same_steps = one.same_steps; same_end = one_heard [] new new2 one.same_end }
  hears_settled [] (r ∷ rs) count p past xs ys new new2 g h x y = absurd (ends_or_hears c d (stops_hearing count p) count p r rs past xs ys new new2 refl g h x y)
  hears_settled (r ∷ rs) [] count p past xs ys new new2 g h x y = absurd (ends_or_hears d c (stops_hearing count p) count p r rs past ys xs new2 new refl h g y x)
  hears_settled (r ∷ rs) (r2 ∷ rs2) count p past xs ys new new2 (on, mid, first, rest, comes, others, whole) (on2, mid2, first2, rest2, comes2, others2, whole2) x y =
      end_as (λ (o : (Round × List End) × Heard). heard_first o.0.0 o.1) xs ys
      ((r, mid), record { rounds = rs; new = new }) ((r2, mid2), record { rounds = rs2; new = new2 })
      (in_parts c d (ComesBy p.ins) (λ (o : Round × List End). HearsFrom (suc count) (heard o.0 o.1 p) rs2 rest2 new2) (comes_settled c d p.ins)
      past xs ys first rest first2 rest2 (r, mid) (r2, mid2) (record { rounds = rs; new = new }) (record { rounds = rs2; new = new2 }) whole whole2 comes comes2 others2
      (λ s u v. hears_settled rs rs2 (suc count) (heard r mid p) (past ++ first) rest rest2 new new2 others s u v) x y)

  pub pub_hears_settled : (p : Publisher) → IsSettled c d (Hears p)
  pub_hears_settled p past xs ys new new2 (rs, g) (rs2, h) x y =
      end_as (λ (o : Heard). o.new) xs ys (record { rounds = rs; new = new }) (record { rounds = rs2; new = new2 }) (hears_settled rs rs2 0 p past xs ys new new2 g h x y)
