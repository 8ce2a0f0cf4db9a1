use Rattle.std.proofs.Common.{◌≡◌, ℕ, true, false, Some, ap, ◌∙◌, rules}
use Rattle.spec_pattern.specs.TurnList.{End}
use Rattle.spec_pattern.specs.Duty.{Duty, Free, Owing}
use Rattle.spec_pattern.specs.RequestReply.{request_of}
use Rattle.spec_pattern.specs.declared.answers.Rule.TheVariants.{BadEnv}
use Rattle.spec_pattern.specs.declared.answers.RecvAnswer.TheVariants as got
use Rattle.spec_pattern.specs.Dropping.{receiving, DropsFew, ReceivesOver}
use Rattle.req_rep.specs.Answering.{RepState, RepGot, RepStopped}
use Rattle.req_rep.specs.Partners.{is_nobody}
use Rattle.req_rep.proofs.PartnersLemmas.{IsRep-owing}
use Rattle.req_rep.proofs.ReceiveLemmas.{MatchRecv-fault}
use Rattle.req_rep.proofs.RepLemmas.{RepStopped-none, RepStopped-few, RepGot-fsm, RepGot-over, RepGot-refused}
use Rattle.req_rep.proofs.rep.Rep.recv.Goals as goal

pub returns-then-not-is_nobody-clause-step : goal.returns-then-not-is_nobody-clause-step
returns-then-not-is_nobody-clause-step g c =
    let r : RepState = record { ins = c.self.inside.ins; owed = c.self.inside.owed; envelope = c.self.inside.envelope.frames.items } in
    let some : is_nobody c.self.inside.owed ≡ false = search rules in
    RepGot-fsm g.E.Peers.runs (g.E.Peers.end_at c.args.peers.now) r c.args.self.now c.self.view_is c.args.peers.now (g.met.E.Peers.runs_none c.args.peers.now) c.args.skips.now.items some

pub returns-in_default-clause-step : goal.returns-in_default-clause-step
returns-in_default-clause-step g c =
    let r : RepState = record { ins = c.self.inside.ins; owed = c.self.inside.owed; envelope = c.self.inside.envelope.frames.items } in
    RepStopped-none g.E.Peers.runs (g.E.Peers.end_at c.args.peers.now) r c.args.self.now c.self.view_is g.met.E.Peers.runs_none c.args.peers.now c.args.skips.now.items
    c.reserve.new.self.items c.reserve.ensures.items

pub invariant_of-self-in-Ok-receive_dropping : goal.invariant_of-self-in-Ok-receive_dropping
invariant_of-self-in-Ok-receive_dropping g c =
    IsRep-owing c.self.inside.ins c.receive_dropping.new.turns c.in-Ok-receive_dropping.place c.receive_dropping.new.sieve.frames.items
    c.receive_dropping.ensures.places c.in-Ok-receive_dropping.ensures.given

pub returns-in-Ok-receive_dropping-clause-step : goal.returns-in-Ok-receive_dropping-clause-step
returns-in-Ok-receive_dropping-clause-step g c =
    let ends = g.E.Peers.end_at c.args.peers.now in
    let r : RepState = record { ins = c.self.inside.ins; owed = c.self.inside.owed; envelope = c.self.inside.envelope.frames.items } in
    let nobody : is_nobody c.self.inside.owed ≡ true = search rules in
    let place = c.in-Ok-receive_dropping.place in
    let m = c.in-Ok-receive_dropping.message in
    let from_ = c.pair.ensures ∙ ap (λ (e : ℕ → End). (e place).pair) c.receive_dropping.ensures.keeps.ends in
    RepGot-over g.E.Peers.runs ends r c.args.self.now c.self.view_is c.args.peers.now c.receive_dropping.new.peers c.args.skips.now.items c.receive_dropping.new.skips.items
    c.receive_dropping.new.turns c.receive_dropping.new.sieve.frames.items place (got.Got (ends place).pair m) (got.Got c.pair.result m) nobody
    (ap (λ pair. got.Got pair m) from_) (c.in-Ok-receive_dropping.ensures.step Free)

pub returns-in-Err-clause-step : goal.returns-in-Err-clause-step
returns-in-Err-clause-step g c =
    let runs = g.E.Peers.runs in
    let ends = g.E.Peers.end_at c.args.peers.now in
    let r : RepState = record { ins = c.self.inside.ins; owed = c.self.inside.owed; envelope = c.self.inside.envelope.frames.items } in
    let nobody : is_nobody c.self.inside.owed ≡ true = search rules in
    let old = c.args.peers.now in
    let new = c.receive_dropping.new.peers in
    let told = c.args.skips.now.items in
    let told' = c.receive_dropping.new.skips.items in
    let ins' = c.receive_dropping.new.turns in
    let envelope' = c.receive_dropping.new.sieve.frames.items in
    let r' : RepState = record { ins = ins'; owed = c.self.inside.owed; envelope = envelope' } in
    let same : envelope' ≡ c.self.inside.envelope.frames.items = ap (λ s. s.frames.items) c.in-Err.ensures.kept ∙ c.reserve.ensures.items in
    let before = receiving old c.self.inside.ins told in
    let after = receiving new ins' told' in
    MatchRecv-fault (DropsFew runs ends request_of BadEnv before after) (RepStopped runs ends old new told told' c.args.self.now r')
    (λ place m. (duty : Duty) → ReceivesOver runs ends request_of BadEnv before after (got.Got (ends place).pair m) duty (Owing (Some (ends place)) envelope'))
    (λ refusal. (duty : Duty) → ReceivesOver runs ends request_of BadEnv before after (got.Refused refusal) duty duty)
    (λ answer. RepGot runs ends old new told told' c.args.self.now answer r') c.in-Err.fault
    (λ few. RepStopped-few runs ends r c.args.self.now c.self.view_is old new told told' ins' envelope' same few)
    (λ refusal over. RepGot-refused runs ends r c.args.self.now c.self.view_is old new told told' ins' envelope' (got.Refused refusal) nobody (over Free))
    c.in-Err.ensures.step
