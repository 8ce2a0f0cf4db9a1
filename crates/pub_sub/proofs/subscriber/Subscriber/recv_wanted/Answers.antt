use Rattle.std.proofs.Common.{◌∙◌, ℕ, refl, ap}
use Rattle.spec_pattern.specs.TurnList.{End}
use Rattle.spec_pattern.specs.Duty.{Duty, Free}
use Rattle.spec_pattern.specs.Subscribing.{wanted_of}
use Rattle.spec_pattern.specs.declared.answers.Rule.TheVariants.{Filtered}
use Rattle.spec_pattern.specs.declared.answers.RecvAnswer.TheVariants as got
use Rattle.spec_pattern.specs.Dropping.{receiving, DropsFew, ReceivesOver}
use Rattle.pub_sub.specs.Followers.{rows_of}
use Rattle.pub_sub.specs.Subscribing.{SubState, SubGives, SubStops}
use Rattle.pub_sub.proofs.SubscriberLemmas.{SubGives-over, SubStops-few, MatchRecv-fault}
use Rattle.pub_sub.proofs.subscriber.Subscriber.recv_wanted.Goals as goal

pub returns-in-Ok-clause-step : goal.returns-in-Ok-clause-step
returns-in-Ok-clause-step g c =
    let ends = g.E.Peers.end_at c.args.peers.now in
    let s0 : SubState = record { ins = c.self.inside.ins; wanted = c.self.inside.wanted; followers = rows_of c.self.inside.followers.items } in
    let from_ = c.pair.ensures ∙ ap (λ (e : ℕ → End). (e c.in-Ok.place).pair) c.receive_dropping.ensures.keeps.ends in
    SubGives-over g.E.Peers.runs ends c.args.peers.now c.receive_dropping.new.peers s0 c.args.self.now c.self.view_is c.args.skips.now.items c.receive_dropping.new.skips.items c.receive_dropping.new.turns
    (got.Got (ends c.in-Ok.place).pair c.in-Ok.message) (got.Got c.pair.result c.in-Ok.message) (ap (λ pair. got.Got pair c.in-Ok.message) from_) (c.in-Ok.ensures.step Free)

pub returns-in-Err-clause-step : goal.returns-in-Err-clause-step
returns-in-Err-clause-step g c =
    let ends = g.E.Peers.end_at c.args.peers.now in
    let runs = g.E.Peers.runs in
    let s0 : SubState = record { ins = c.self.inside.ins; wanted = c.self.inside.wanted; followers = rows_of c.self.inside.followers.items } in
    let s' : SubState = record { ins = c.receive_dropping.new.turns; wanted = c.self.inside.wanted; followers = rows_of c.self.inside.followers.items } in
    let old = c.args.peers.now in
    let new = c.receive_dropping.new.peers in
    let told = c.args.skips.now.items in
    let told' = c.receive_dropping.new.skips.items in
    let before = receiving old s0.ins told in
    let after = receiving new c.receive_dropping.new.turns told' in
    MatchRecv-fault (DropsFew runs ends (wanted_of s0.wanted) Filtered before after) (SubStops runs ends old new told told' c.args.self.now s')
    (λ place m. (duty : Duty) → ReceivesOver runs ends (wanted_of s0.wanted) Filtered before after (got.Got (ends place).pair m) duty Free)
    (λ refusal. (duty : Duty) → ReceivesOver runs ends (wanted_of s0.wanted) Filtered before after (got.Refused refusal) duty duty)
    (λ answer. SubGives runs ends old new told told' c.args.self.now answer s') c.in-Err.fault
    (λ few. SubStops-few runs ends old new s0 c.args.self.now c.self.view_is told told' c.receive_dropping.new.turns few)
    (λ refusal over. SubGives-over runs ends old new s0 c.args.self.now c.self.view_is told told' c.receive_dropping.new.turns (got.Refused refusal) (got.Refused refusal) refl (over Free))
    c.in-Err.ensures.step
