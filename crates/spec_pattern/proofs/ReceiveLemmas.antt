-- A receive has one outcome, by the kinds.
use Rattle.std.proofs.Common.{◌≡◌, ◌∙◌, ℕ, List, [], sym, ap}
use Rattle.zq_base.specs.Ends.{PipeId}
use Rattle.zq_base.specs.declared.kind.Kind.{Kind}
use Rattle.zq_base.specs.declared.kind.Kind.TheVariants as kind
use Rattle.spec_pattern.specs.PipeStep.{PipeStep}
use Rattle.spec_pattern.specs.TurnList.{End}
use Rattle.spec_pattern.specs.Call.{RecvStep}
use Rattle.spec_pattern.specs.Routing.{named}
use Rattle.spec_pattern.specs.Publishing.{Publisher}
use Rattle.spec_pattern.specs.Subscribing.{Subscriber}
use Rattle.spec_pattern.specs.Pattern.{Pattern, Push, Pull, Pair, Dealer, Req, Rep, Router, Pub, XPub, Sub, XSub}
use Rattle.spec_pattern.specs.declared.answers.Skip.{Skip}
use Rattle.spec_pattern.specs.declared.answers.RecvAnswer.{RecvAnswer}
use Rattle.spec_pattern.specs.Peers.{peer_names, HaveOneName}
use Rattle.spec_pattern.specs.Outcomes.{RecvOutcome, ReceivesSo}
use Rattle.spec_pattern.specs.WholeLaws.{GoOn, AReceiveHasOneOutcome}
use Rattle.spec_pattern.proofs.ByTurnLemmas.{recv_step_settled}
use Rattle.spec_pattern.proofs.DropLemmas.{Ended}
use Rattle.spec_pattern.proofs.AskLemmas.{req_recv_settled, rep_recv_settled}
use Rattle.spec_pattern.proofs.NameLemmas.{one_name, router_recv_settled}
use Rattle.spec_pattern.proofs.NoticeLemmas.{xpub_recv_settled}
use Rattle.spec_pattern.proofs.SubscribeLemmas.{Filtering, sub_recv_settled, xsub_recv_settled}

one_receiving : (x y : RecvOutcome) → x.steps ≡ y.steps → x.skips ≡ y.skips → x.answer ≡ y.answer → x.new ≡ y.new → x ≡ y
one_receiving x y s k a n = λ i. record { steps = s i; skips = k i; answer = a i; new = n i }

module _ (c d : PipeId → ℕ) (past : List PipeStep) where
  -- a kind that receives by turn
  by_turn : (k : Kind) (turns : List End) (F : List End → Pattern) (x y : RecvOutcome) (t u : List End) → x.skips ≡ [] → y.skips ≡ []
      → RecvStep k turns x.steps x.answer t → RecvStep k turns y.steps y.answer u → x.new ≡ F t → y.new ≡ F u → GoOn c d past x.steps y.steps → x ≡ y
  by_turn k turns F x y t u none none2 g h is is2 go =
      let one = recv_step_settled c d k turns past x.steps y.steps (x.answer, t) (y.answer, u) g h go.one go.other in
      one_receiving x y one.same_steps (none ∙ sym none2) (ap (λ (o : RecvAnswer × List End). o.0) one.same_end)
      (is ∙ ap (λ (o : RecvAnswer × List End). F o.1) one.same_end ∙ sym is2)

  receives_one : (old : Pattern) (x y : RecvOutcome) → HaveOneName (peer_names old) → ReceivesSo old x → ReceivesSo old y → GoOn c d past x.steps y.steps → x ≡ y
  receives_one (Push outs) x y sound (n, (t, g, is)) (n2, (u, h, is2)) go = by_turn kind.Push outs Push x y t u n n2 g h is is2 go
  receives_one (Pull ins) x y sound (n, (t, g, is)) (n2, (u, h, is2)) go = by_turn kind.Pull ins Pull x y t u n n2 g h is is2 go
  receives_one (Pair turns) x y sound (n, (t, g, is)) (n2, (u, h, is2)) go = by_turn kind.Pair turns.ins (λ v. Pair (record turns { ins = v })) x y t u n n2 g h is is2 go
  receives_one (Dealer turns) x y sound (n, (t, g, is)) (n2, (u, h, is2)) go = by_turn kind.Dealer turns.ins (λ v. Dealer (record turns { ins = v })) x y t u n n2 g h is is2 go
  receives_one (Req turns duty) x y sound (t, v, g, is) (u, z, h, is2) go =
      let one = req_recv_settled c d turns.ins duty past x.steps y.steps
      (x.skips, record { answer = x.answer; turns = t; duty = v }) (y.skips, record { answer = y.answer; turns = u; duty = z }) g h go.one go.other in
      one_receiving x y one.same_steps (ap (λ (o : List Skip × Ended). o.0) one.same_end) (ap (λ (o : List Skip × Ended). o.1.answer) one.same_end)
      (is ∙ ap (λ (o : List Skip × Ended). Req (record turns { ins = o.1.turns }) o.1.duty) one.same_end ∙ sym is2)
  receives_one (Rep ins duty) x y sound (t, v, g, is) (u, z, h, is2) go =
      let one = rep_recv_settled c d ins duty past x.steps y.steps
      (x.skips, record { answer = x.answer; turns = t; duty = v }) (y.skips, record { answer = y.answer; turns = u; duty = z }) g h go.one go.other in
      one_receiving x y one.same_steps (ap (λ (o : List Skip × Ended). o.0) one.same_end) (ap (λ (o : List Skip × Ended). o.1.answer) one.same_end)
      (is ∙ ap (λ (o : List Skip × Ended). Rep o.1.turns o.1.duty) one.same_end ∙ sym is2)
  receives_one (Router r) x y sound (n, (t, g, is)) (n2, (u, h, is2)) go =
      let one = router_recv_settled c d (named r.names) r.ins (one_name r.names sound) past x.steps y.steps (x.answer, t) (y.answer, u) g h go.one go.other in
      one_receiving x y one.same_steps (n ∙ sym n2) (ap (λ (o : RecvAnswer × List End). o.0) one.same_end)
      (is ∙ ap (λ (o : RecvAnswer × List End). Router (record r { ins = o.1 })) one.same_end ∙ sym is2)
  receives_one (Pub p) x y sound (n, g) (n2, h) go = one_receiving x y (g.1 ∙ sym h.1) (n ∙ sym n2) (g.0 ∙ sym h.0) (g.2 ∙ sym h.2)
  receives_one (XPub p) x y sound (n, (q, g, is)) (n2, (q2, h, is2)) go =
      let one = xpub_recv_settled c d p past x.steps y.steps (x.answer, q) (y.answer, q2) g h go.one go.other in
      one_receiving x y one.same_steps (n ∙ sym n2) (ap (λ (o : RecvAnswer × Publisher). o.0) one.same_end)
      (is ∙ ap (λ (o : RecvAnswer × Publisher). XPub o.1) one.same_end ∙ sym is2)
  receives_one (Sub s) x y sound (t, g, is) (u, h, is2) go =
      let one = sub_recv_settled c d s past x.steps y.steps
      (record { skips = x.skips; answer = x.answer; new = t }) (record { skips = y.skips; answer = y.answer; new = u }) g h go.one go.other in
      one_receiving x y one.same_steps (ap (λ (o : Filtering). o.skips) one.same_end) (ap (λ (o : Filtering). o.answer) one.same_end)
      (is ∙ ap (λ (o : Filtering). Sub o.new) one.same_end ∙ sym is2)
  receives_one (XSub s) x y sound (n, (t, g, is)) (n2, (u, h, is2)) go =
      let one = xsub_recv_settled c d s past x.steps y.steps (x.answer, t) (y.answer, u) g h go.one go.other in
      one_receiving x y one.same_steps (n ∙ sym n2) (ap (λ (o : RecvAnswer × Subscriber). o.0) one.same_end)
      (is ∙ ap (λ (o : RecvAnswer × Subscriber). XSub o.1) one.same_end ∙ sym is2)

pub a_receive_has_one : AReceiveHasOneOutcome
a_receive_has_one c d past = receives_one c d past
