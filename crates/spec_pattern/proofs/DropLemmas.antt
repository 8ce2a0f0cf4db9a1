-- A receive that drops what it doesn't give has one outcome: the same messages come, and none is given before the first that gives something.
use Rattle.std.proofs.Common.{◌≡◌, ◌∙◌, ◌≤◌, ◌+◌, ℕ, suc, List, [], ◌∷◌, ◌++◌, Option, Some, None, All, length, map, sym, subst, ap, arith, append_assoc}
use Rattle.std.proofs.lemmas.Option.{same_Some}
use Rattle.std.proofs.lemmas.List.Elements.{All-head, All-tail}
use Rattle.zq_base.specs.Message.{Frames}
use Rattle.zq_base.specs.Ends.{PipeId}
use Rattle.spec_pattern.specs.Duty.{Duty}
use Rattle.spec_pattern.specs.PipeStep.{PipeStep, AreExact}
use Rattle.spec_pattern.specs.TurnList.{End}
use Rattle.spec_pattern.specs.Drops.{most_drops, Round, Given, Comes, ComeByTurn, skip_of, GivesOne, EndsReceive, given, again, busy, ReceivesDropping}
use Rattle.spec_pattern.specs.declared.answers.Rule.{Rule}
use Rattle.spec_pattern.specs.declared.answers.Skip.{Skip}
use Rattle.spec_pattern.specs.declared.answers.RecvAnswer.{RecvAnswer}
use Rattle.spec_pattern.specs.declared.answers.RecvAnswer.TheVariants as got
use Rattle.spec_pattern.proofs.StepLemmas.{SameEnd, IsSettled, end_as, exact_front, in_parts}
use Rattle.spec_pattern.proofs.InLemmas.{ComesBy, comes_settled, comes_or_none, none_settled}

-- what comes of a receive behind its drops: the answer, the turns after, and what is under way then
pub record Ended : Type 0 where
  pub answer : RecvAnswer
  pub turns : List End
  pub duty : Duty

-- the messages that are dropped, and the end
pub record Dropped : Type 0 where
  pub rounds : List Round
  pub ended : Ended

abbrev dropped_first : Round × Dropped → Dropped
dropped_first one = record { rounds = one.0 ∷ one.1.rounds; ended = one.1.ended }

module _ (gives : End → Frames → Option Given) (old : Duty) where
  abbrev pub EndsBy : ℕ → List End → List PipeStep → Ended → Type 0
  EndsBy count turns steps e = EndsReceive gives count turns steps e.answer e.turns old e.duty

  -- after so many drops these messages are dropped, one after the other, and the receive ends
  abbrev pub DropsOn : ℕ → List End → List Round → List PipeStep → Ended → Type 0
  DropsOn count turns [] steps e = EndsBy count turns steps e
  DropsOn count turns (r ∷ rs) steps e =
      (mid : List End) × (first : List PipeStep) × (rest : List PipeStep)
      × Comes turns r first mid × (gives r.peer r.message ≡ None) × DropsOn (suc count) mid rs rest e × (steps ≡ first ++ rest)

  drops_on : (count total : ℕ) (turns mid : List End) (rs : List Round) (front last : List PipeStep) (e : Ended) → total ≡ count + length rs
      → ComeByTurn turns rs front mid → All (λ (r : Round). gives r.peer r.message ≡ None) rs → EndsBy total mid last e → DropsOn count turns rs (front ++ last) e
  drops_on count total turns mid [] front last e is came none ends =
      let now : EndsBy total turns last e = subst (λ t. EndsBy total t last e) came.1 ends in
      let whole : last ≡ front ++ last = ap (λ l. l ++ last) (sym came.0) in
      subst (λ n. EndsBy n turns (front ++ last) e) (omega (arith, is)) (subst (λ l. EndsBy total turns l e) whole now)
  drops_on count total turns mid (r ∷ rs) front last e is (first, rest, on, comes, others, whole) none ends = (
    on,
    first,
    rest ++ last,
    comes,
    All-head (λ (s : Round). gives s.peer s.message ≡ None) r rs none,
    drops_on (suc count) total on mid rs rest last e (omega (arith, is)) others (All-tail (λ (s : Round). gives s.peer s.message ≡ None) r rs none) ends,
    ap (λ l. l ++ last) whole ∙ append_assoc first rest last,
  )

  -- no receive drops more than the most
  few : (count : ℕ) (turns : List End) (rs : List Round) (steps : List PipeStep) (e : Ended) → DropsOn count turns rs steps e → count + length rs ≤ most_drops
  few count turns [] steps e (given less one) = omega (arith, less)
  few count turns [] steps e (again less none same) = omega (arith, less)
  few count turns [] steps e (busy all no_steps refused same_turns same) = omega (arith, all)
  few count turns (r ∷ rs) steps e (mid, first, rest, comes, none, on, whole) =
      let less = few (suc count) mid rs rest e on in
      omega (arith, less)

  -- a receive that gives a message, or ends, doesn't drop one more
  ends_or_drops : (c d : PipeId → ℕ) (count : ℕ) (past xs ys : List PipeStep) (turns : List End) (r : Round) (rs : List Round) (e f : Ended)
      → EndsBy count turns xs e → DropsOn count turns (r ∷ rs) ys f → AreExact c past xs → AreExact d past ys → ⊥
  ends_or_drops c d count past xs ys turns r rs e f (given less one) (mid, first, rest, comes, none, on, whole) x y =
      let same = comes_settled c d turns past xs first (one.round, e.turns) (r, mid) one.comes comes x (exact_front d past first rest (subst (AreExact d past) whole y)) in
      some_or_none one.round one.message e.duty one.gives_it (subst (λ (s : Round). gives s.peer s.message ≡ None) (sym (ap (λ (p : Round × List End). p.0) same.same_end)) none)
    where
      some_or_none : (s : Round) (m : Frames) (then : Duty) → gives s.peer s.message ≡ Some (record { message = m; duty = then }) → gives s.peer s.message ≡ None → ⊥
      some_or_none s m then some none = cc
  ends_or_drops c d count past xs ys turns r rs e f (again less nothing same) (mid, first, rest, comes, none, on, whole) x y =
      comes_or_none d c turns past first xs r mid e.turns comes nothing.0 (exact_front d past first rest (subst (AreExact d past) whole y)) x
  ends_or_drops c d count past xs ys turns r rs e f (busy all no_steps refused same_turns same) drops x y =
      let less = few count turns (r ∷ rs) ys f drops in
      omega (arith, all, less)

  one_ended : (e f : Ended) → e.answer ≡ f.answer → e.turns ≡ f.turns → e.duty ≡ f.duty → e ≡ f
  one_ended e f a t u = λ i. record { answer = a i; turns = t i; duty = u i }

  module _ (c d : PipeId → ℕ) where
    given_settled : (turns : List End) (past xs ys : List PipeStep) (e f : Ended) → (g : GivesOne gives turns xs e.answer e.turns e.duty) → (h : GivesOne gives turns ys f.answer f.turns f.duty)
        → AreExact c past xs → AreExact d past ys → SameEnd xs e ys f
    given_settled turns past xs ys e f g h x y =
        let one = comes_settled c d turns past xs ys (g.round, e.turns) (h.round, f.turns) g.comes h.comes x y in
        let round : g.round ≡ h.round = ap (λ (p : Round × List End). p.0) one.same_end in
        let both = same_Some (record { message = g.message; duty = e.duty }) (record { message = h.message; duty = f.duty })
        (sym g.gives_it ∙ ap (λ (r : Round). gives r.peer r.message) round ∙ h.gives_it) in
        let message : g.message ≡ h.message = ap (λ (z : Given). z.message) both in
        let duty : e.duty ≡ f.duty = ap (λ (z : Given). z.duty) both in
        let answer : e.answer ≡ f.answer = g.answer_is ∙ ap (λ (r : Round). got.Got r.peer.pair g.message) round ∙ ap (got.Got h.round.peer.pair) message ∙ sym h.answer_is in
        record { same_steps = one.same_steps; same_end = one_ended e f answer (ap (λ (p : Round × List End). p.1) one.same_end) duty }

    ended_settled : (count : ℕ) (turns : List End) → IsSettled c d (EndsBy count turns)
    ended_settled count turns past xs ys e f (given less one) (given less2 one2) x y = given_settled turns past xs ys e f one one2 x y
    ended_settled count turns past xs ys e f (given less one) (again less2 nothing2 same2) x y =
        absurd (comes_or_none c d turns past xs ys one.round e.turns f.turns one.comes nothing2.0 x y)
    ended_settled count turns past xs ys e f (again less nothing same) (given less2 one2) x y =
        absurd (comes_or_none d c turns past ys xs one2.round f.turns e.turns one2.comes nothing.0 y x)
    ended_settled count turns past xs ys e f (again less nothing same) (again less2 nothing2 same2) x y =
        let one = none_settled c d turns past xs ys e.turns f.turns nothing.0 nothing2.0 x y in
        record { same_steps = one.same_steps; same_end = one_ended e f (nothing.1 ∙ sym nothing2.1) one.same_end (same ∙ sym same2) }
    ended_settled count turns past xs ys e f (given less one) (busy all no_steps refused same_turns same) x y = absurd (omega (arith, less, all))
    ended_settled count turns past xs ys e f (again less nothing same) (busy all no_steps refused same_turns same2) x y = absurd (omega (arith, less, all))
    ended_settled count turns past xs ys e f (busy all no_steps refused same_turns same) (given less one) x y = absurd (omega (arith, less, all))
    ended_settled count turns past xs ys e f (busy all no_steps refused same_turns same) (again less nothing same2) x y = absurd (omega (arith, less, all))
    ended_settled count turns past xs ys e f (busy all none refused turns_are same) (busy all2 none2 refused2 turns_are2 same2) x y =
        record { same_steps = none ∙ sym none2; same_end = one_ended e f (refused ∙ sym refused2) (turns_are ∙ sym turns_are2) (same ∙ sym same2) }

    drops_settled : (rs rs2 : List Round) (count : ℕ) (turns : List End) (past xs ys : List PipeStep) (e f : Ended) → DropsOn count turns rs xs e → DropsOn count turns rs2 ys f
        → AreExact c past xs → AreExact d past ys → SameEnd {A = Dropped} xs (record { rounds = rs; ended = e }) ys (record { rounds = rs2; ended = f })
    drops_settled [] [] count turns past xs ys e f g h x y =
        end_as (λ (z : Ended). record { rounds = []; ended = z }) xs ys e f (ended_settled count turns past xs ys e f g h x y)
    drops_settled [] (r ∷ rs) count turns past xs ys e f g h x y = absurd (ends_or_drops c d count past xs ys turns r rs e f g h x y)
    drops_settled (r ∷ rs) [] count turns past xs ys e f g h x y = absurd (ends_or_drops d c count past ys xs turns r rs f e h g y x)
    drops_settled (r ∷ rs) (r2 ∷ rs2) count turns past xs ys e f (mid, first, rest, comes, none, on, whole) (mid2, first2, rest2, comes2, none2, on2, whole2) x y =
        end_as (λ (p : (Round × List End) × Dropped). dropped_first (p.0.0, p.1)) xs ys
        ((r, mid), record { rounds = rs; ended = e }) ((r2, mid2), record { rounds = rs2; ended = f })
        (in_parts c d (ComesBy turns) (λ (p : Round × List End). DropsOn (suc count) p.1 rs2 rest2 f) (comes_settled c d turns)
        past xs ys first rest first2 rest2 (r, mid) (r2, mid2) (record { rounds = rs; ended = e }) (record { rounds = rs2; ended = f }) whole whole2 comes comes2 on2
        (λ s u v. drops_settled rs rs2 (suc count) mid (past ++ first) rest rest2 e f on s u v) x y)

  -- a receive, from its first drop on
  all_drops : (rule : Rule) (turns : List End) (steps : List PipeStep) (skips : List Skip) (e : Ended) → (g : ReceivesDropping gives rule turns steps skips e.answer e.turns old e.duty)
      → DropsOn 0 turns g.dropped steps e
  all_drops rule turns steps skips e g =
      subst (λ l. DropsOn 0 turns g.dropped l e) (sym g.steps_are)
      (drops_on 0 (length g.dropped) turns g.mid g.dropped g.front g.last e (omega arith) g.drops.came g.drops.none g.ends)

-- what comes of a receive that drops: what it drops, and how it ends
abbrev pub DropsBy : (End → Frames → Option Given) → Rule → Duty → List End → List PipeStep → List Skip × Ended → Type 0
DropsBy gives rule old turns steps o = ReceivesDropping gives rule turns steps o.0 o.1.answer o.1.turns old o.1.duty

pub dropping_settled : (c d : PipeId → ℕ) (gives : End → Frames → Option Given) (rule : Rule) (old : Duty) (turns : List End) → IsSettled c d (DropsBy gives rule old turns)
dropping_settled c d gives rule old turns past xs ys (skips, e) (skips2, f) g h x y =
    let one = drops_settled gives old c d g.dropped h.dropped 0 turns past xs ys e f (all_drops gives old rule turns xs skips e g) (all_drops gives old rule turns ys skips2 f h) x y in
    let skipped : skips ≡ skips2 = g.drops.skips_are ∙ ap (λ (o : Dropped). map (skip_of rule) o.rounds) one.same_end ∙ sym h.drops.skips_are in
    let ended : e ≡ f = ap (λ (o : Dropped). o.ended) one.same_end in
    record { same_steps = one.same_steps; same_end = λ i. (skipped i, ended i) }
