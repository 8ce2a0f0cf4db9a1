use Rattle.std.proofs.Common.{sym, subst}
use Rattle.spec_pattern.specs.declared.answers.RecvAnswer.TheVariants as got
use Rattle.pub_sub.specs.Hearing.{XPubGives}
use Rattle.pub_sub.proofs.HearLemmas.{KeepsPeers-on}
use Rattle.pub_sub.proofs.ReceiveLemmas.{given_some, given_none, XPubGives-heard, XPubGives-nothing, XPubStops-giving, XPubStops-hearing}
use Rattle.pub_sub.proofs.publisher.Publisher.recv_heard.Goals as goal

pub returns-in-Ok-Some-clause-step : goal.returns-in-Ok-Some-clause-step
returns-in-Ok-Some-clause-step g c =
    let gave = given_some c.hear.new.self c.give.new.self c.in-Ok-Some.field-0 c.in-Ok-Some.first c.in-Ok-Some.field-0-is c.in-Ok-Some.ensures.ok in
    XPubGives-heard g.E.Peers.runs (g.E.Peers.end_at c.args.peers.now) c.args.peers.now c.hear.new.peers c.args.self.now c.hear.new.self c.give.new.self
    c.in-Ok.most c.in-Ok-Some.first.0 c.in-Ok-Some.first.1 c.requires.none c.requires.nothing c.in-Ok.ensures.heard gave.0 gave.1

pub returns-in-Ok-Some-clause-same : goal.returns-in-Ok-Some-clause-same
returns-in-Ok-Some-clause-same g c = KeepsPeers-on c.args.self.now c.hear.new.self c.give.new.self c.hear.ensures.same c.give.ensures.same

pub returns-in-Ok-None-clause-step : goal.returns-in-Ok-None-clause-step
returns-in-Ok-None-clause-step g c =
    let gave = given_none c.hear.new.self c.give.new.self c.in-Ok-None.field-0 c.in-Ok-None.field-0-is c.in-Ok-None.ensures.ok in
    subst (λ r. XPubGives g.E.Peers.runs (g.E.Peers.end_at c.args.peers.now) c.args.peers.now c.hear.new.peers c.args.self.now (got.Refused r) c.give.new.self) (sym c.nothing_heard.ensures)
    (XPubGives-nothing g.E.Peers.runs (g.E.Peers.end_at c.args.peers.now) c.args.peers.now c.hear.new.peers c.args.self.now c.hear.new.self c.give.new.self
    c.in-Ok.most c.requires.none c.requires.nothing c.in-Ok.ensures.heard gave.0 gave.1)

pub returns-in-Ok-None-clause-same : goal.returns-in-Ok-None-clause-same
returns-in-Ok-None-clause-same g c = KeepsPeers-on c.args.self.now c.hear.new.self c.give.new.self c.hear.ensures.same c.give.ensures.same

pub returns-in-Err-give-clause-step : goal.returns-in-Err-give-clause-step
returns-in-Err-give-clause-step g c =
    XPubStops-giving g.E.Peers.runs (g.E.Peers.end_at c.args.peers.now) c.args.peers.now c.hear.new.peers c.args.self.now c.hear.new.self c.give.new.self
    c.in-Ok.most c.requires.none c.in-Ok.ensures.heard c.in-Err-give.ensures.err

pub returns-in-Err-give-clause-same : goal.returns-in-Err-give-clause-same
returns-in-Err-give-clause-same g c = KeepsPeers-on c.args.self.now c.hear.new.self c.give.new.self c.hear.ensures.same c.give.ensures.same

pub returns-in-Err-clause-step : goal.returns-in-Err-clause-step
returns-in-Err-clause-step g c =
    XPubStops-hearing g.E.Peers.runs (g.E.Peers.end_at c.args.peers.now) c.args.peers.now c.hear.new.peers c.args.self.now c.hear.new.self c.hear.new.self
    c.requires.none c.in-Err.ensures.memory

pub returns-in-Err-clause-same : goal.returns-in-Err-clause-same
returns-in-Err-clause-same g c = c.hear.ensures.same
