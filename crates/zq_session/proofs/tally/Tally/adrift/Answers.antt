use Rattle.zq_session.specs.declared.tally.Tally.{Tally}
use Rattle.zq_session.proofs.SumLemmas.{adrift_none, adrift_left, adrift_all}
use Rattle.zq_session.proofs.tally.Tally.adrift.Goals as goal

pub returns-then-not-flying : goal.returns-then-not-flying
returns-then-not-flying c = λ x k. (let t : Tally = c.args.self.now in adrift_none c.args.left t.flying t.settled x.taken c.if-not-flying.true k.taken_is)

pub returns-then-left : goal.returns-then-left
returns-then-left c = λ x k. (let t : Tally = c.args.self.now in adrift_left c.args.left t.flying t.settled x.taken c.if-left.true c.if-not-flying.false k.taken_is)

pub returns : goal.returns
returns c = λ x k. adrift_all c.args.left x.taken c.if-left.false
