-- A send has one outcome, by the kinds.
use Rattle.std.proofs.Common.{◌≡◌, ◌∙◌, ℕ, List, Bool, All, sym, ap}
use Rattle.zq_base.specs.Message.{Frames}
use Rattle.zq_base.specs.Ends.{PipeId}
use Rattle.zq_base.specs.declared.kind.Kind.{Kind}
use Rattle.zq_base.specs.declared.kind.Kind.TheVariants as kind
use Rattle.spec_pattern.specs.PipeStep.{PipeStep}
use Rattle.spec_pattern.specs.TurnList.{End}
use Rattle.spec_pattern.specs.Call.{SendStep}
use Rattle.spec_pattern.specs.Routing.{named}
use Rattle.spec_pattern.specs.Subscribing.{Subscriber}
use Rattle.spec_pattern.specs.Pattern.{Pattern, Push, Pull, Pair, Dealer, Req, Rep, Router, Pub, XPub, Sub, XSub}
use Rattle.spec_pattern.specs.declared.answers.SendAnswer.{SendAnswer}
use Rattle.spec_pattern.specs.Peers.{partner_of, written_ends}
use Rattle.spec_pattern.specs.Outcomes.{SendOutcome, SendsSo}
use Rattle.spec_pattern.specs.WholeLaws.{AgreeOn, GoOn, ASendHasOneOutcome}
use Rattle.spec_pattern.proofs.PeerLemmas.{of_partner, of_named}
use Rattle.spec_pattern.proofs.ByTurnLemmas.{send_step_settled}
use Rattle.spec_pattern.proofs.AskLemmas.{AskEnd, ReplyEnd, req_send_settled, rep_send_settled}
use Rattle.spec_pattern.proofs.NameLemmas.{router_send_settled}
use Rattle.spec_pattern.proofs.PublishLemmas.{pub_send_settled}
use Rattle.spec_pattern.proofs.SubscribeLemmas.{xsub_send_settled}

one_sending : (x y : SendOutcome) → x.steps ≡ y.steps → x.answer ≡ y.answer → x.new ≡ y.new → x ≡ y
one_sending x y s a n = λ i. record { steps = s i; answer = a i; new = n i }

module _ (c d : PipeId → ℕ) (past : List PipeStep) where
  -- a kind that sends by turn
  by_turn : (k : Kind) (w : End → Bool) (m : Frames) (turns : List End) (F : List End → Pattern) (x y : SendOutcome) (t u : List End) → All (λ e. c e ≡ d e) turns
      → SendStep k w m turns x.steps x.answer t → SendStep k w m turns y.steps y.answer u → x.new ≡ F t → y.new ≡ F u → GoOn c d past x.steps y.steps → x ≡ y
  by_turn k w m turns F x y t u agree g h is is2 go =
      let one = send_step_settled c d k w m turns agree past x.steps y.steps (x.answer, t) (y.answer, u) g h go.one go.other in
      one_sending x y one.same_steps (ap (λ (o : SendAnswer × List End). o.0) one.same_end) (is ∙ ap (λ (o : SendAnswer × List End). F o.1) one.same_end ∙ sym is2)

  sends_one : (w : End → Bool) (m : Frames) (old : Pattern) (x y : SendOutcome) → AgreeOn c d (written_ends old) → SendsSo w m old x → SendsSo w m old y → GoOn c d past x.steps y.steps → x ≡ y
  sends_one w m (Push outs) x y agree g h go = by_turn kind.Push w m outs Push x y g.0 h.0 agree g.1 h.1 g.2 h.2 go
  sends_one w m (Pull ins) x y agree (t, g, is) (u, h, is2) go = one_sending x y (g.1 ∙ sym h.1) (g.0 ∙ sym h.0) (is ∙ ap Pull (g.2 ∙ sym h.2) ∙ sym is2)
  sends_one w m (Pair turns) x y agree g h go = by_turn kind.Pair w m turns.outs (λ t. Pair (record turns { outs = t })) x y g.0 h.0 agree g.1 h.1 g.2 h.2 go
  sends_one w m (Dealer turns) x y agree g h go = by_turn kind.Dealer w m turns.outs (λ t. Dealer (record turns { outs = t })) x y g.0 h.0 agree g.1 h.1 g.2 h.2 go
  sends_one w m (Req turns duty) x y agree (t, v, g, is) (u, z, h, is2) go =
      let one = req_send_settled c d w m turns.outs duty agree past x.steps y.steps (record { answer = x.answer; turns = t; duty = v }) (record { answer = y.answer; turns = u; duty = z }) g h go.one go.other in
      one_sending x y one.same_steps (ap (λ (o : AskEnd). o.answer) one.same_end) (is ∙ ap (λ (o : AskEnd). Req (record turns { outs = o.turns }) o.duty) one.same_end ∙ sym is2)
  sends_one w m (Rep ins duty) x y agree (v, g, is) (z, h, is2) go =
      let one = rep_send_settled c d w m duty (of_partner (λ e. c e ≡ d e) (partner_of duty) agree) past x.steps y.steps (record { answer = x.answer; duty = v }) (record { answer = y.answer; duty = z }) g h go.one go.other in
      one_sending x y one.same_steps (ap (λ (o : ReplyEnd). o.answer) one.same_end) (is ∙ ap (λ (o : ReplyEnd). Rep ins o.duty) one.same_end ∙ sym is2)
  sends_one w m (Router r) x y agree g h go =
      let one = router_send_settled c d r.mandatory w (named r.names) m (λ name e. of_named (λ k. c k ≡ d k) r.names name e agree) past x.steps y.steps x.answer y.answer g.0 h.0 go.one go.other in
      one_sending x y one.same_steps one.same_end (g.1 ∙ sym h.1)
  sends_one w m (Pub p) x y agree g h go =
      let one = pub_send_settled c d w m p agree past x.steps y.steps x.answer y.answer g.0 h.0 go.one go.other in
      one_sending x y one.same_steps one.same_end (g.1 ∙ sym h.1)
  sends_one w m (XPub p) x y agree g h go =
      let one = pub_send_settled c d w m p agree past x.steps y.steps x.answer y.answer g.0 h.0 go.one go.other in
      one_sending x y one.same_steps one.same_end (g.1 ∙ sym h.1)
  sends_one w m (Sub s) x y agree g h go = one_sending x y (g.1 ∙ sym h.1) (g.0 ∙ sym h.0) (g.2 ∙ sym h.2)
  sends_one w m (XSub s) x y agree (t, g, is) (u, h, is2) go =
      let one = xsub_send_settled c d w m s agree past x.steps y.steps (x.answer, t) (y.answer, u) g h go.one go.other in
      one_sending x y one.same_steps (ap (λ (o : SendAnswer × Subscriber). o.0) one.same_end) (is ∙ ap (λ (o : SendAnswer × Subscriber). XSub o.1) one.same_end ∙ sym is2)

pub a_send_has_one : ASendHasOneOutcome
a_send_has_one c d past = sends_one c d past
