-- A subscription, a cancel, and what is heard or told before a call have one outcome, by the kinds.
use Rattle.std.proofs.Common.{◌≡◌, ◌∙◌, ℕ, List, Bool, All, refl, sym, ap}
use Rattle.std.specs.Map.{keys_of}
use Rattle.zq_base.specs.Ends.{PipeId}
use Rattle.spec_pattern.specs.PipeStep.{PipeStep}
use Rattle.spec_pattern.specs.TurnList.{End}
use Rattle.spec_pattern.specs.Topics.{Topic}
use Rattle.spec_pattern.specs.Publishing.{Publisher, Hears}
use Rattle.spec_pattern.specs.Subscribing.{Subscriber, SubAnswer, Tells}
use Rattle.spec_pattern.specs.Pattern.{Pattern, Pub, XPub, Sub, XSub}
use Rattle.spec_pattern.specs.PatternCalls.{Change, Changes, ChangeAnswer, NoTopics, Changed, AsChanged}
use Rattle.spec_pattern.specs.Peers.{written_ends}
use Rattle.spec_pattern.specs.Outcomes.{ChangeOutcome, PumpOutcome, ChangesSo, PumpsSo}
use Rattle.spec_pattern.specs.WholeLaws.{AgreeOn, GoOn, AChangeHasOneOutcome, APumpHasOneOutcome}
use Rattle.spec_pattern.proofs.PublishLemmas.{pub_hears_settled}
use Rattle.spec_pattern.proofs.TellLemmas.{tells_settled, changes_settled}

one_changing : (x y : ChangeOutcome) → x.steps ≡ y.steps → x.answer ≡ y.answer → x.new ≡ y.new → x ≡ y
one_changing x y s a n = λ i. record { steps = s i; answer = a i; new = n i }

one_pumping : (x y : PumpOutcome) → x.steps ≡ y.steps → x.new ≡ y.new → x ≡ y
one_pumping x y s n = λ i. record { steps = s i; new = n i }

-- a subscriber's answer is one of its own
changed_by : (P : SubAnswer → Type 0) (answer : ChangeAnswer) → AsChanged P answer → (a : SubAnswer) × P a × (answer ≡ Changed a)
changed_by P NoTopics said = absurd said
changed_by P (Changed a) said = (a, said, refl)

module _ (c d : PipeId → ℕ) (past : List PipeStep) where
  changed : (change : Change) (w : End → Bool) (topic : Topic) (s : Subscriber) (F : Subscriber → Pattern) (x y : ChangeOutcome) (t u : Subscriber) → All (λ e. c e ≡ d e) (keys_of s.followers)
      → AsChanged (λ a. Changes change w topic s x.steps a t) x.answer → AsChanged (λ a. Changes change w topic s y.steps a u) y.answer → x.new ≡ F t → y.new ≡ F u
      → GoOn c d past x.steps y.steps → x ≡ y
  changed change w topic s F x y t u agree g h is is2 go =
      let a = changed_by (λ z. Changes change w topic s x.steps z t) x.answer g in
      let b = changed_by (λ z. Changes change w topic s y.steps z u) y.answer h in
      let one = changes_settled c d change w topic s agree past x.steps y.steps (a.0, t) (b.0, u) a.1 b.1 go.one go.other in
      one_changing x y one.same_steps (a.2 ∙ ap (λ (o : SubAnswer × Subscriber). Changed o.0) one.same_end ∙ sym b.2)
      (is ∙ ap (λ (o : SubAnswer × Subscriber). F o.1) one.same_end ∙ sym is2)

  changes_one : (change : Change) (w : End → Bool) (topic : Topic) (old : Pattern) (x y : ChangeOutcome) → AgreeOn c d (written_ends old) → ChangesSo change w topic old x → ChangesSo change w topic old y
      → GoOn c d past x.steps y.steps → x ≡ y
  changes_one change w topic (Sub s) x y agree g h go = changed change w topic s Sub x y g.0 h.0 agree g.1 h.1 g.2 h.2 go
  changes_one change w topic (XSub s) x y agree g h go = changed change w topic s XSub x y g.0 h.0 agree g.1 h.1 g.2 h.2 go
  changes_one change w topic _ x y agree g h go = one_changing x y (g.1 ∙ sym h.1) (g.0 ∙ sym h.0) (g.2 ∙ sym h.2)

  hears_one : (p : Publisher) (F : Publisher → Pattern) (x y : PumpOutcome) (q r : Publisher) → Hears p x.steps q → Hears p y.steps r → x.new ≡ F q → y.new ≡ F r → GoOn c d past x.steps y.steps → x ≡ y
  hears_one p F x y q r g h is is2 go =
      let one = pub_hears_settled c d p past x.steps y.steps q r g h go.one go.other in
      one_pumping x y one.same_steps (is ∙ ap F one.same_end ∙ sym is2)

  tells_one : (w : End → Bool) (s : Subscriber) (F : Subscriber → Pattern) (x y : PumpOutcome) (t u : Subscriber) → All (λ e. c e ≡ d e) (keys_of s.followers) → Tells w s x.steps t → Tells w s y.steps u
      → x.new ≡ F t → y.new ≡ F u → GoOn c d past x.steps y.steps → x ≡ y
  tells_one w s F x y t u agree g h is is2 go =
      let one = tells_settled c d w s agree past x.steps y.steps t u g h go.one go.other in
      one_pumping x y one.same_steps (is ∙ ap F one.same_end ∙ sym is2)

  pumps_one : (w : End → Bool) (old : Pattern) (x y : PumpOutcome) → AgreeOn c d (written_ends old) → PumpsSo w old x → PumpsSo w old y → GoOn c d past x.steps y.steps → x ≡ y
  pumps_one w (Pub p) x y agree g h go = hears_one p Pub x y g.0 h.0 g.1 h.1 g.2 h.2 go
  pumps_one w (XPub p) x y agree g h go = hears_one p XPub x y g.0 h.0 g.1 h.1 g.2 h.2 go
  pumps_one w (Sub s) x y agree g h go = tells_one w s Sub x y g.0 h.0 agree g.1 h.1 g.2 h.2 go
  pumps_one w (XSub s) x y agree g h go = tells_one w s XSub x y g.0 h.0 agree g.1 h.1 g.2 h.2 go
  pumps_one w _ x y agree g h go = one_pumping x y (g.0 ∙ sym h.0) (g.1 ∙ sym h.1)

pub a_change_has_one : AChangeHasOneOutcome
a_change_has_one c d past = changes_one c d past

pub a_pump_has_one : APumpHasOneOutcome
a_pump_has_one c d past = pumps_one c d past
