-- SUB and XSUB: a receive has one outcome, and so has what an XSUB sends.
use Rattle.std.proofs.Common.{◌≡◌, ◌∙◌, inl, inr, ℕ, List, Bool, true, false, All, length, nat_le, sym, ap}
use Rattle.std.specs.Prelude.{filter}
use Rattle.std.specs.Map.{keys_of}
use Rattle.std.proofs.lemmas.List.Elements.{All-filter}
use Rattle.zq_base.specs.Message.{Frames, max_committed}
use Rattle.zq_base.specs.Ends.{PipeId}
use Rattle.spec_pattern.specs.PipeStep.{PipeStep, AreExact}
use Rattle.spec_pattern.specs.TurnList.{End}
use Rattle.spec_pattern.specs.Duty.{Free}
use Rattle.spec_pattern.specs.Publishing.{Saying, Adds, Cancels, Other, saying_of}
use Rattle.spec_pattern.specs.Subscribing.{Subscriber, SubAnswer, Done, Limit, NotSub, wanted_of, SubReceives, XSubReceives, AsSent, XSubSays, XSubSendsWhere, XSubSends}
use Rattle.spec_pattern.specs.PatternCalls.{Subscribe, Unsubscribe}
use Rattle.spec_pattern.specs.declared.answers.Rule.TheVariants.{NoSub, Filtered}
use Rattle.spec_pattern.specs.declared.answers.Skip.{Skip}
use Rattle.spec_pattern.specs.declared.answers.SendRefusal.TheVariants as send
use Rattle.spec_pattern.specs.declared.answers.SendAnswer.{SendAnswer}
use Rattle.spec_pattern.specs.declared.answers.SendAnswer.TheVariants as sent
use Rattle.spec_pattern.specs.declared.answers.RecvAnswer.{RecvAnswer}
use Rattle.spec_pattern.proofs.StepLemmas.{SameEnd, IsSettled}
use Rattle.spec_pattern.proofs.ByTurnLemmas.{pull_settled}
use Rattle.spec_pattern.proofs.DropLemmas.{Ended, dropping_settled}
use Rattle.spec_pattern.proofs.PublishLemmas.{many_settled}
use Rattle.spec_pattern.proofs.TellLemmas.{ChangesBy, changes_settled}

-- what comes of a receive of a SUB: what it drops, the answer, and the subscriber after
pub record Filtering : Type 0 where
  pub skips : List Skip
  pub answer : RecvAnswer
  pub new : Subscriber

abbrev pub FiltersBy : Subscriber → List PipeStep → Filtering → Type 0
FiltersBy s steps o = SubReceives s steps o.skips o.answer o.new

abbrev pub GetsBy : Subscriber → List PipeStep → RecvAnswer × Subscriber → Type 0
GetsBy s steps o = XSubReceives s steps o.0 o.1

abbrev pub SaysBy : (List PipeStep → SendAnswer → Subscriber → Type 0) → List PipeStep → SendAnswer × Subscriber → Type 0
SaysBy Step steps o = Step steps o.0 o.1

-- how what came of a subscription is answered
abbrev pub sent_of : SubAnswer → SendAnswer
sent_of Done = sent.Subscribed
sent_of Limit = sent.Refused send.SubLimit
sent_of NotSub = sent.Dropped NoSub

as_sent : (P : SubAnswer → Type 0) (answer : SendAnswer) → AsSent P answer → (a : SubAnswer) × P a × (answer ≡ sent_of a)
as_sent P answer (inl (done, is)) = (Done, done, is)
as_sent P answer (inr (inl (limit, is))) = (Limit, limit, is)
as_sent P answer (inr (inr (none, is))) = (NotSub, none, is)

module _ (c d : PipeId → ℕ) where
  pub sub_recv_settled : (s : Subscriber) → IsSettled c d (FiltersBy s)
  sub_recv_settled s past xs ys a b (turns, g, new) (turns2, h, new2) x y =
      let one = dropping_settled c d (wanted_of s.wanted) Filtered Free s.ins past xs ys
      (a.skips, record { answer = a.answer; turns = turns; duty = Free }) (b.skips, record { answer = b.answer; turns = turns2; duty = Free }) g h x y in
      let skips = ap (λ (o : List Skip × Ended). o.0) one.same_end in
      let answer = ap (λ (o : List Skip × Ended). o.1.answer) one.same_end in
      let new_one = new ∙ ap (λ (o : List Skip × Ended). record s { ins = o.1.turns }) one.same_end ∙ sym new2 in
      record { same_steps = one.same_steps; same_end = λ i. record { skips = skips i; answer = answer i; new = new_one i } }

  pub xsub_recv_settled : (s : Subscriber) → IsSettled c d (GetsBy s)
  xsub_recv_settled s past xs ys (a, new) (b, new2) (turns, g, is) (turns2, h, is2) x y =
      let one = pull_settled c d s.ins past xs ys (a, turns) (b, turns2) g h x y in
      let answer = ap (λ (o : RecvAnswer × List End). o.0) one.same_end in
      let new_one = is ∙ ap (λ (o : RecvAnswer × List End). record s { ins = o.1 }) one.same_end ∙ sym is2 in
      record { same_steps = one.same_steps; same_end = λ i. (answer i, new_one i) }

  -- a subscription that is sent, by what comes of it
  as_settled : (P : List PipeStep → SubAnswer → Subscriber → Type 0) → IsSettled c d (ChangesBy P) → (past xs ys : List PipeStep) (a b : SendAnswer) (new new2 : Subscriber)
      → AsSent (λ z. P xs z new) a → AsSent (λ z. P ys z new2) b → AreExact c past xs → AreExact d past ys → SameEnd {A = SendAnswer × Subscriber} xs (a, new) ys (b, new2)
  as_settled P settled past xs ys a b new new2 g h x y =
      let s = as_sent (λ z. P xs z new) a g in
      let t = as_sent (λ z. P ys z new2) b h in
      let one = settled past xs ys (s.0, new) (t.0, new2) s.1 t.1 x y in
      let answer = s.2 ∙ ap (λ (o : SubAnswer × Subscriber). sent_of o.0) one.same_end ∙ sym t.2 in
      let same = ap (λ (o : SubAnswer × Subscriber). o.1) one.same_end in
      record { same_steps = one.same_steps; same_end = λ i. (answer i, same i) }

  says_settled : (saying : Saying) (w : End → Bool) (m : Frames) (s : Subscriber) → All (λ e. c e ≡ d e) (keys_of s.followers) → IsSettled c d (SaysBy (XSubSays saying w m s))
  says_settled (Adds topic) w m s agree past xs ys (a, new) (b, new2) g h x y = as_settled _ (changes_settled c d Subscribe w topic s agree) past xs ys a b new new2 g h x y
  says_settled (Cancels topic) w m s agree past xs ys (a, new) (b, new2) g h x y = as_settled _ (changes_settled c d Unsubscribe w topic s agree) past xs ys a b new new2 g h x y
  says_settled Other w m s agree past xs ys (a, new) (b, new2) g h x y =
      let one = many_settled c d m (filter w (keys_of s.followers)) (All-filter w (λ e. c e ≡ d e) (keys_of s.followers) agree) past xs ys a b g.0 h.0 x y in
      let same = g.1 ∙ sym h.1 in
      record { same_steps = one.same_steps; same_end = λ i. (one.same_end i, same i) }

  sends_settled : (fits : Bool) (w : End → Bool) (m : Frames) (s : Subscriber) → All (λ e. c e ≡ d e) (keys_of s.followers) → IsSettled c d (SaysBy (XSubSendsWhere fits w m s))
  sends_settled true w m s agree past xs ys a b g h x y = says_settled (saying_of m) w m s agree past xs ys a b g h x y
  sends_settled false w m s agree past xs ys (a, new) (b, new2) g h x y =
      let answer = g.0 ∙ sym h.0 in
      let same = g.2 ∙ sym h.2 in
      record { same_steps = g.1 ∙ sym h.1; same_end = λ i. (answer i, same i) }

  pub xsub_send_settled : (w : End → Bool) (m : Frames) (s : Subscriber) → All (λ e. c e ≡ d e) (keys_of s.followers) → IsSettled c d (SaysBy (XSubSends w m s))
  xsub_send_settled w m s agree past xs ys a b g h x y = sends_settled (nat_le (length m) max_committed) w m s agree past xs ys a b g h x y
