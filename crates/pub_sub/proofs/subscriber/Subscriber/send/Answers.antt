use Rattle.std.proofs.Common.{◌≡◌, ◌∙◌, ◌≤◌, length, refl, sym, ap, subst, arith}
use Rattle.spec_pattern.specs.Publishing.{Adds, Cancels, Other, saying_of}
use Rattle.pub_sub.specs.Many.{SendsMany}
use Rattle.sub_table.specs.Said.{said}
use Rattle.pub_sub.specs.XSubs.{MatchXSend, IfXBack, XSubSent, SaysUntold}
use Rattle.pub_sub.proofs.XSubLemmas.{XSubSent-too_large, XSubSent-other, XSubSent-adds, XSubSent-cancels, IfXBack-sent, MatchXSend-as}
use Rattle.std.specs.Prelude.{filter}
use Rattle.std.specs.Map.{keys_of}
use Rattle.pub_sub.proofs.subscriber.Subscriber.send.Goals as goal

pub returns-then-len-gt-MAX_COMMITTED-clause-step : goal.returns-then-len-gt-MAX_COMMITTED-clause-step
returns-then-len-gt-MAX_COMMITTED-clause-step g c =
    XSubSent-too_large g.E.Peers.runs (g.E.Peers.end_at c.args.peers.now) (g.E.Peers.writable c.args.peers.now) c.args.message c.args.peers.now c.args.peers.now c.args.self.now
    (g.met.E.Peers.runs_none c.args.peers.now) (omega arith)

pub returns-in-Adds-clause-step : goal.returns-in-Adds-clause-step
returns-in-Adds-clause-step g c =
    let runs = g.E.Peers.runs in
    let ends = g.E.Peers.end_at c.args.peers.now in
    let writable = g.E.Peers.writable c.args.peers.now in
    let few : length c.args.message ≤ 1023 = omega arith in
    let says : saying_of c.args.message ≡ Adds c.in-Adds.topic.now = sym c.saying_of.ensures.value ∙ ap said c.in-Adds.is in
    let old = c.args.peers.now in
    let new = c.subscribe-done.new.peers in
    let s = c.args.self.now in
    let s' = c.subscribe-done.new.self in
    subst
    (λ r. MatchXSend r ((s' ≡ s) × (new ≡ old)) (SaysUntold runs ends writable (saying_of c.args.message) old new s s')
    (λ answer. XSubSent runs ends writable c.args.message old new s answer s'))
    (sym c.sent_of.ensures)
    (XSubSent-adds runs ends writable c.args.message old new s s' c.in-Adds.topic.now ((s' ≡ s) × (new ≡ old))
    (λ w. SaysUntold runs ends writable w old new s s') c.subscribe-done.result few says c.subscribe-done.ensures.step)

pub returns-in-Adds-clause-back : goal.returns-in-Adds-clause-back
returns-in-Adds-clause-back g c = subst (λ r. IfXBack r (λ back. back ≡ c.args.message)) (sym c.sent_of.ensures) (IfXBack-sent c.subscribe-done.result c.args.message)

pub returns-in-Cancels-clause-step : goal.returns-in-Cancels-clause-step
returns-in-Cancels-clause-step g c =
    let runs = g.E.Peers.runs in
    let ends = g.E.Peers.end_at c.args.peers.now in
    let writable = g.E.Peers.writable c.args.peers.now in
    let few : length c.args.message ≤ 1023 = omega arith in
    let says : saying_of c.args.message ≡ Cancels c.in-Cancels.topic.now = sym c.saying_of.ensures.value ∙ ap said c.in-Cancels.is in
    let old = c.args.peers.now in
    let new = c.unsubscribe-done.new.peers in
    let s = c.args.self.now in
    let s' = c.unsubscribe-done.new.self in
    subst
    (λ r. MatchXSend r ((s' ≡ s) × (new ≡ old)) (SaysUntold runs ends writable (saying_of c.args.message) old new s s')
    (λ answer. XSubSent runs ends writable c.args.message old new s answer s'))
    (sym c.sent_of-in-Cancels.ensures)
    (XSubSent-cancels runs ends writable c.args.message old new s s' c.in-Cancels.topic.now ((s' ≡ s) × (new ≡ old))
    (λ w. SaysUntold runs ends writable w old new s s') c.unsubscribe-done.result few says c.unsubscribe-done.ensures.step)

pub returns-in-Cancels-clause-back : goal.returns-in-Cancels-clause-back
returns-in-Cancels-clause-back g c = subst (λ r. IfXBack r (λ back. back ≡ c.args.message)) (sym c.sent_of-in-Cancels.ensures) (IfXBack-sent c.unsubscribe-done.result c.args.message)

pub returns-in-Other-clause-step : goal.returns-in-Other-clause-step
returns-in-Other-clause-step g c =
    let runs = g.E.Peers.runs in
    let ends = g.E.Peers.end_at c.args.peers.now in
    let writable = g.E.Peers.writable c.args.peers.now in
    let few : length c.args.message ≤ 1023 = omega arith in
    let says : saying_of c.args.message ≡ Other = sym c.saying_of.ensures.value ∙ ap said c.in-Other.is in
    let old = c.args.peers.now in
    let new = c.pass_on.new.peers in
    let s = c.args.self.now in
    MatchXSend-as (new ≡ old) ((s ≡ s) × (new ≡ old)) (SaysUntold runs ends writable (saying_of c.args.message) old new s s)
    (λ answer. SendsMany runs ends c.args.message old new (filter writable (keys_of s.followers)) answer)
    (λ answer. XSubSent runs ends writable c.args.message old new s answer s) c.pass_on.result (λ e. (refl, e))
    (λ answer h. XSubSent-other runs ends writable c.args.message old new s answer few says h) c.pass_on.ensures.step
