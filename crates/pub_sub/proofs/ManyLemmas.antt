-- What a distribution over places does at the ends that are there.
use Rattle.std.proofs.lemmas.List.Elements.{All-head, All-tail, All-cons, filter-append}
use Rattle.std.proofs.lemmas.List.{take_more, map-append}
use Rattle.std.proofs.Common.{◌≤◌, ◌<◌, ◌+◌, ◌++◌, zero, take, get_or, length, suc, All, arith, ◌≡◌, ◌∙◌, ℕ, Bool, true, false, cond, not, List, [], ◌∷◌, filter, map, refl, sym, ap, subst, inl, inr}
use Rattle.zq_base.specs.Message.{Frames}
use Rattle.zq_base.specs.declared.ids.PairId.{PairId}
use Rattle.spec_pattern.specs.PipeStep.{PipeStep, Commit, FullLook}
use Rattle.spec_pattern.specs.TurnList.{End}
use Rattle.spec_pattern.specs.Publishing.{Offers, many_answer, pairs_of}
use Rattle.spec_pattern.specs.declared.answers.SendAnswer.{SendAnswer}
use Rattle.dist.specs.Distribution.{Look, places_of, with_room, without_room, step_of, Distributes}
use Rattle.pub_sub.specs.Many.{pairs_at, answer_by, SendsMany}

-- looks at places are offers to the ends that are there
offers-looks : (ends : ℕ → End) (m : Frames) (looks : List Look)
    → Offers m (map ends (places_of looks)) (map (step_of ends m) looks) (map ends (places_of (with_room looks))) (map ends (places_of (without_room looks)))
offers-looks ends m [] = (refl, refl, refl)
offers-looks ends m (l ∷ ls) = by l.room (offers-looks ends m ls)
  where
    by : (b : Bool) → Offers m (map ends (places_of ls)) (map (step_of ends m) ls) (map ends (places_of (with_room ls))) (map ends (places_of (without_room ls)))
        → Offers m (ends l.place ∷ map ends (places_of ls)) (cond b (Commit (ends l.place) m) (FullLook (ends l.place)) ∷ map (step_of ends m) ls)
        (map ends (places_of (cond b (l ∷ with_room ls) (with_room ls)))) (map ends (places_of (cond (not b) (l ∷ without_room ls) (without_room ls))))
    by true rest = (map (step_of ends m) ls, map ends (places_of (with_room ls)), map ends (places_of (without_room ls)), rest, inl (refl, refl, refl))
    by false rest = (map (step_of ends m) ls, map ends (places_of (with_room ls)), map ends (places_of (without_room ls)), rest, inr (refl, refl, refl))

-- the pairs of ends are those of their places
pairs_of-places : (ends : ℕ → End) (places : List ℕ) → pairs_of (map ends places) ≡ pairs_at ends places
pairs_of-places ends [] = refl
pairs_of-places ends (p ∷ ps) = ap (λ l. (ends p).pair ∷ l) (pairs_of-places ends ps)

-- what is answered by places is what is answered by ends
many_answer-places : (ends : ℕ → End) (put full : List ℕ) → answer_by (pairs_at ends put) (pairs_at ends full) ≡ many_answer (map ends put) (map ends full)
many_answer-places ends [] [] = refl
many_answer-places ends [] (p ∷ full) = refl
many_answer-places ends (p ∷ put) full = λ j. many_answer_of (sym (pairs_of-places ends put) j) (sym (pairs_of-places ends full) j)
  where
    many_answer_of : List PairId → List PairId → SendAnswer
    many_answer_of ps fs = answer_by ((ends p).pair ∷ ps) fs

-- a distribution sends to many
pub SendsMany-distribution : {S : Type 0} (runs : S → List PipeStep → S → Type 0) (ends : ℕ → End) (m : Frames) (old new : S) (places put full : List ℕ) (answer : SendAnswer)
    → Distributes runs ends m old new places put full → answer ≡ answer_by (pairs_at ends put) (pairs_at ends full) → SendsMany runs ends m old new places answer
SendsMany-distribution runs ends m old new places put full answer d is = record {
  steps = d.steps;
  runs_are = d.runs_are;
  sends = record {
    put = map ends put;
    full = map ends full;
    offers = at_places (sym d.sent.places_are) (sym d.sent.steps_are) (sym d.sent.put_are) (sym d.sent.full_are) (offers-looks ends m d.sent.looks);
    answer_is = is ∙ many_answer-places ends put full;
  };
}
  where
    at_places : {a b c e : List ℕ} {s t : List PipeStep} {f g : List ℕ} → a ≡ b → s ≡ t → c ≡ e → f ≡ g
        → Offers m (map ends a) s (map ends c) (map ends f) → Offers m (map ends b) t (map ends e) (map ends g)
    at_places p q r u h = subst (λ x. x) (λ j. Offers m (map ends (p j)) (q j) (map ends (r j)) (map ends (u j))) h

-- what holds at all places holds at those with room, and at those without
All-some : (P : ℕ → Type 0) (test : Look → Bool) (looks : List Look) → All P (places_of looks) → All P (places_of (filter test looks))
All-some P test [] all = all
All-some P test (l ∷ ls) all = by (test l) (All-some P test ls (All-tail P l.place (places_of ls) all))
  where
    by : (b : Bool) → All P (places_of (filter test ls)) → All P (places_of (cond b (l ∷ filter test ls) (filter test ls)))
    by true rest = All-cons P l.place (places_of (filter test ls)) (All-head P l.place (places_of ls) all) rest
    by false rest = rest

-- and there are no more of them
length-some : (test : Look → Bool) (looks : List Look) → length (places_of (filter test looks)) ≤ length (places_of looks)
length-some test [] = omega arith
length-some test (l ∷ ls) = by (test l) (length-some test ls)
  where
    by : (b : Bool) → length (places_of (filter test ls)) ≤ length (places_of ls) → length (places_of (cond b (l ∷ filter test ls) (filter test ls))) ≤ suc (length (places_of ls))
    by true rest = omega arith
    by false rest = omega arith

module _ {S : Type 0} (runs : S → List PipeStep → S → Type 0) (ends : ℕ → End) (m : Frames) (old new : S) (places put full : List ℕ) where
  pub All-put : (P : ℕ → Type 0) → Distributes runs ends m old new places put full → All P places → All P put
  All-put P d all = subst (All P) (sym d.sent.put_are) (All-some P (λ l. l.room) d.sent.looks (subst (All P) d.sent.places_are all))

  pub All-full : (P : ℕ → Type 0) → Distributes runs ends m old new places put full → All P places → All P full
  All-full P d all = subst (All P) (sym d.sent.full_are) (All-some P (λ l. not l.room) d.sent.looks (subst (All P) d.sent.places_are all))

  pub length-put : Distributes runs ends m old new places put full → length put ≤ length places
  length-put d =
      let e : length put ≡ length (places_of (with_room d.sent.looks)) = ap length d.sent.put_are in
      let f : length places ≡ length (places_of d.sent.looks) = ap length d.sent.places_are in
      let l : length (places_of (with_room d.sent.looks)) ≤ length (places_of d.sent.looks) = length-some (λ l. l.room) d.sent.looks in
      omega arith

  pub length-full : Distributes runs ends m old new places put full → length full ≤ length places
  length-full d =
      let e : length full ≡ length (places_of (without_room d.sent.looks)) = ap length d.sent.full_are in
      let f : length places ≡ length (places_of d.sent.looks) = ap length d.sent.places_are in
      let l : length (places_of (without_room d.sent.looks)) ≤ length (places_of d.sent.looks) = length-some (λ l. not l.room) d.sent.looks in
      omega arith

-- the pairs of one place more
pub pairs_at-more : (ends : ℕ → End) (places : List ℕ) (i : ℕ) → i < length places
    → pairs_at ends (take (i + 1) places) ≡ pairs_at ends (take i places) ++ (ends (get_or places i 0)).pair ∷ []
pairs_at-more ends places i within = ap (pairs_at ends) (take_more places i 0 within) ∙ map-append (λ p. (ends p).pair) (take i places) (get_or places i 0 ∷ [])

pub pairs_at-length : (ends : ℕ → End) (places : List ℕ) (i : ℕ) → i ≤ length places → length (pairs_at ends (take i places)) ≡ i
pairs_at-length ends [] zero within = refl
pairs_at-length ends [] (suc i) within = absurd (omega arith)
pairs_at-length ends (p ∷ ps) zero within = refl
pairs_at-length ends (p ∷ ps) (suc i) within = ap suc (pairs_at-length ends ps i (omega arith))

-- those of one place more that pass a test
pub filter-more : (test : ℕ → Bool) (places : List ℕ) (i : ℕ) → i < length places
    → filter test (take i places) ++ filter test (get_or places i 0 ∷ []) ≡ filter test (take (i + 1) places)
filter-more test places i within =
    sym (filter-append test (take i places) (get_or places i 0 ∷ [])) ∙ ap (filter test) (sym (take_more places i 0 within))
