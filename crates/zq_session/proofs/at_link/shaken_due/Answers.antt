use Rattle.std.proofs.Common.{Option, subst}
use Rattle.std.specs.Prelude.{IfSome, IfNone}
use Rattle.zq_base.specs.declared.options.Peer.{Peer}
use Rattle.link_side.specs.Silent.{IsShaken, IsUnshaken}
use Rattle.zq_session.proofs.CourseLemmas.{shakes_not, shakes_none, shakes_now}
use Rattle.zq_session.proofs.at_link.shaken_due.Goals as goal

pub returns-then-not-may_shake-clause-ok : goal.returns-then-not-may_shake-clause-ok
returns-then-not-may_shake-clause-ok c = shakes_not c.args.life.now c.args.peer.now c.args.side.now.kept (c.may_shake.ensures.no c.if-not-may_shake.true)

pub returns-in-None-clause-ok : goal.returns-in-None-clause-ok
returns-in-None-clause-ok c =
    shakes_none c.args.life.now c.args.peer.now c.args.side.now.kept (subst (λ (o : Option Peer). IfNone o (IsUnshaken c.args.side.now.kept)) c.in-None.is c.in_ok-peer.ensures.none)

pub returns-in-Some-clause-ok : goal.returns-in-Some-clause-ok
returns-in-Some-clause-ok c =
    let y = c.may_shake.ensures.yes c.if-not-may_shake.false in
    shakes_now c.args.life.now c.args.peer.now c.args.side.now.kept c.in-Some.found (subst (λ (o : Option Peer). IfSome o (λ (peer : Peer). IsShaken peer c.args.side.now.kept)) c.in-Some.is c.in_ok-peer.ensures.some) y.0 y.1.0 y.1.1
