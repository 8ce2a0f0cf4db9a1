use Rattle.std.proofs.Common.{◌≡◌, ℕ, true, false, sym, ap, subst, ◌∙◌, refl, rules}
use Rattle.spec_pattern.specs.TurnList.{End}
use Rattle.spec_pattern.specs.Duty.{Duty, Free, Asked}
use Rattle.spec_pattern.specs.declared.answers.Rule.TheVariants.{Stray}
use Rattle.spec_pattern.specs.declared.answers.RecvAnswer.TheVariants as got
use Rattle.spec_pattern.specs.Dropping.{receiving, DropsFew, ReceivesOver}
use Rattle.req_rep.specs.Asking.{ReqState, ReqGot, ReqStopped, reply_by}
use Rattle.req_rep.specs.Partners.{IsReq, end_of, is_nobody}
use Rattle.req_rep.specs.contracts.req.Req.{the_view}
use Rattle.req_rep.specs.declared.partner.Partner.TheVariants.{Nobody}
use Rattle.req_rep.proofs.PartnersLemmas.{IsReq-free, IsReq-turned}
use Rattle.req_rep.proofs.ReceiveLemmas.{MatchRecv-fault}
use Rattle.req_rep.proofs.ReqLemmas.{ReqGot-fsm, ReqGot-over, ReqGot-refused, ReqStopped-few, gives_is}
use Rattle.req_rep.proofs.req.Req.recv.Goals as goal

pub returns-then-is_nobody-clause-step : goal.returns-then-is_nobody-clause-step
returns-then-is_nobody-clause-step g c =
    let r0 : ReqState = record { outs = c.self-inside.inside.0.0.outs; ins = c.self-inside.inside.0.0.ins; asked = c.self-inside.inside.0.1.0 } in
    let nobody : is_nobody r0.asked ≡ true = search rules in
    ReqGot-fsm g.E.Peers.runs (g.E.Peers.end_at c.args.peers.now) c.args.peers.now c.args.peers.now r0 c.args.self.now (ap the_view c.self-inside.view_is ∙ c.self.view_is)
    (g.met.E.Peers.runs_none c.args.peers.now) c.args.skips.now.items nobody

pub invariant_of-self : goal.invariant_of-self
invariant_of-self g c =
    let h = subst (λ (s : ReqState). IsReq s.outs s.ins s.asked) (sym (ap the_view c.self-inside.view_is)) c.self.invariant in
    IsReq-free c.self-inside.inside.0.0.outs c.self-inside.inside.0.0.ins c.receive_dropping.new.turns c.self-inside.inside.0.1.0 c.receive_dropping.ensures.places h

pub returns-in-Ok-clause-step : goal.returns-in-Ok-clause-step
returns-in-Ok-clause-step g c =
    let ends = g.E.Peers.end_at c.args.peers.now in
    let r0 : ReqState = record { outs = c.self-inside.inside.0.0.outs; ins = c.self-inside.inside.0.0.ins; asked = c.self-inside.inside.0.1.0 } in
    let some : is_nobody r0.asked ≡ false = search rules in
    let place = c.in-Ok.place in
    let m = c.in-Ok.message in
    let from_ = c.pair.ensures ∙ ap (λ (e : ℕ → End). (e place).pair) c.receive_dropping.ensures.keeps.ends in
    ReqGot-over g.E.Peers.runs ends c.args.peers.now c.receive_dropping.new.peers r0 c.args.self.now (ap the_view c.self-inside.view_is ∙ c.self.view_is)
    (reply_by c.pair_of.result) (gives_is ends r0.asked c.pair_of.result c.pair_of.ensures) c.args.skips.now.items c.receive_dropping.new.skips.items c.receive_dropping.new.turns
    Nobody (got.Got (ends place).pair m) (got.Got c.pair.result m) Free some (ap (λ pair. got.Got pair m) from_) refl (c.in-Ok.ensures.step (Asked (end_of ends r0.asked)))

pub invariant_of-self-in-Err-1 : goal.invariant_of-self-in-Err-1
invariant_of-self-in-Err-1 g c =
    let h = subst (λ (s : ReqState). IsReq s.outs s.ins s.asked) (sym (ap the_view c.self-inside.view_is)) c.self.invariant in
    IsReq-turned c.self-inside.inside.0.0.outs c.self-inside.inside.0.0.ins c.receive_dropping.new.turns c.self-inside.inside.0.1.0 c.receive_dropping.ensures.places h

pub returns-in-Err-clause-step : goal.returns-in-Err-clause-step
returns-in-Err-clause-step g c =
    let runs = g.E.Peers.runs in
    let ends = g.E.Peers.end_at c.args.peers.now in
    let r0 : ReqState = record { outs = c.self-inside.inside.0.0.outs; ins = c.self-inside.inside.0.0.ins; asked = c.self-inside.inside.0.1.0 } in
    let is = ap the_view c.self-inside.view_is ∙ c.self.view_is in
    let some : is_nobody r0.asked ≡ false = search rules in
    let old = c.args.peers.now in
    let new = c.receive_dropping.new.peers in
    let told = c.args.skips.now.items in
    let told' = c.receive_dropping.new.skips.items in
    let ins' = c.receive_dropping.new.turns in
    let r' : ReqState = record { outs = r0.outs; ins = ins'; asked = r0.asked } in
    let gives = reply_by c.pair_of.result in
    let gives_are = gives_is ends r0.asked c.pair_of.result c.pair_of.ensures in
    let before = receiving old r0.ins told in
    let after = receiving new ins' told' in
    MatchRecv-fault (DropsFew runs ends gives Stray before after) (ReqStopped runs ends old new told told' c.args.self.now r')
    (λ place m. (duty : Duty) → ReceivesOver runs ends gives Stray before after (got.Got (ends place).pair m) duty Free)
    (λ refusal. (duty : Duty) → ReceivesOver runs ends gives Stray before after (got.Refused refusal) duty duty)
    (λ answer. ReqGot runs ends old new told told' c.args.self.now answer r') c.in-Err.fault
    (λ few. ReqStopped-few runs ends old new r0 c.args.self.now is gives gives_are told told' ins' few)
    (λ refusal over. ReqGot-refused runs ends old new r0 c.args.self.now is gives gives_are told told' ins' (got.Refused refusal) some (over (Asked (end_of ends r0.asked))))
    c.in-Err.ensures.step
