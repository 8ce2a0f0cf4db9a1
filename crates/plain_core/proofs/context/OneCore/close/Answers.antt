use Rattle.std.specs.Prelude.{true}
use Rattle.std.proofs.Common.{sym, ap, subst}
use Rattle.desk.specs.declared.given.Given.{Given}
use Rattle.zq_world.specs.Way.{ClosesSo, KeepsOthers}
use Rattle.plain_core.specs.Agreeing.{as_open, was_made, Agrees}
use Rattle.plain_core.specs.Sound.{Core, core_of, pieces_in}
use Rattle.plain_core.proofs.ClosingLemmas.{goes_shut}
use Rattle.plain_core.proofs.GoingLemmas.{acts_left}
use Rattle.plain_core.proofs.context.OneCore.close.Goals as goal

pub invariant_of-self : goal.invariant_of-self
invariant_of-self g c = (goes_shut g.row.P-Waker.Denot g.P.Pipes.known c.calls_go_on_so.ensures (core_of c.self.inside.lent.desk c.self.inside.lent.pipes c.self.inside.tale.items c.self.inside.wanted) c.self.inside.closed c.self.inside.drops.items c.self.invariant c.is_of_one_order.ensures c.args.caller c.close_lent.new.lent.pipes c.close_lent.new.lent.desk c.close_lent.new.tale.items c.is_of_one_order-in-Ok.ensures c.given_are_its.ensures c.given_are_its-in-Ok.ensures c.in-Ok.ensures.asked c.in-Ok.closed c.close_lent.new.lent.since.items c.args.socket (subst (λ (w : Core g.row.P.Denot (Given g.row.P-Name.Denot g.row.P-Out.Denot g.row.P-In.Denot) g.row.P-Name.Denot g.row.P-Story.Denot). Agrees g.row.P-Waker.Denot g.P.Pipes.known w c.args.caller c.args.socket) (sym c.self.view_is) c.requires.agrees) c.in-Ok.ensures.ok).sound

pub returns-in-Ok-clause-ok : goal.returns-in-Ok-clause-ok
returns-in-Ok-clause-ok g c =
    subst (λ (w : Core g.row.P.Denot (Given g.row.P-Name.Denot g.row.P-Out.Denot g.row.P-In.Denot) g.row.P-Name.Denot g.row.P-Story.Denot). ClosesSo c.args.caller (as_open c.args.socket).object (pieces_in w) (pieces_in (core_of c.close_lent.new.lent.desk c.close_lent.new.lent.pipes c.close_lent.new.tale.items c.self.inside.wanted))) c.self.view_is
    (goes_shut g.row.P-Waker.Denot g.P.Pipes.known c.calls_go_on_so.ensures (core_of c.self.inside.lent.desk c.self.inside.lent.pipes c.self.inside.tale.items c.self.inside.wanted) c.self.inside.closed c.self.inside.drops.items c.self.invariant c.is_of_one_order.ensures c.args.caller c.close_lent.new.lent.pipes c.close_lent.new.lent.desk c.close_lent.new.tale.items c.is_of_one_order-in-Ok.ensures c.given_are_its.ensures c.given_are_its-in-Ok.ensures c.in-Ok.ensures.asked c.in-Ok.closed c.close_lent.new.lent.since.items c.args.socket (subst (λ (w : Core g.row.P.Denot (Given g.row.P-Name.Denot g.row.P-Out.Denot g.row.P-In.Denot) g.row.P-Name.Denot g.row.P-Story.Denot). Agrees g.row.P-Waker.Denot g.P.Pipes.known w c.args.caller c.args.socket) (sym c.self.view_is) c.requires.agrees) c.in-Ok.ensures.ok).closes

pub returns-in-Ok-clause-wanted : goal.returns-in-Ok-clause-wanted
returns-in-Ok-clause-wanted g c = ap (λ (w : Core g.row.P.Denot (Given g.row.P-Name.Denot g.row.P-Out.Denot g.row.P-In.Denot) g.row.P-Name.Denot g.row.P-Story.Denot). w.wanted) c.self.view_is

pub returns-in-Ok-clause-keeps : goal.returns-in-Ok-clause-keeps
returns-in-Ok-clause-keeps g c =
    subst (λ (w : Core g.row.P.Denot (Given g.row.P-Name.Denot g.row.P-Out.Denot g.row.P-In.Denot) g.row.P-Name.Denot g.row.P-Story.Denot). KeepsOthers as_open (Agrees g.row.P-Waker.Denot g.P.Pipes.known) was_made c.args.caller (as_open c.args.socket).object w (core_of c.close_lent.new.lent.desk c.close_lent.new.lent.pipes c.close_lent.new.tale.items c.self.inside.wanted)) c.self.view_is
    (goes_shut g.row.P-Waker.Denot g.P.Pipes.known c.calls_go_on_so.ensures (core_of c.self.inside.lent.desk c.self.inside.lent.pipes c.self.inside.tale.items c.self.inside.wanted) c.self.inside.closed c.self.inside.drops.items c.self.invariant c.is_of_one_order.ensures c.args.caller c.close_lent.new.lent.pipes c.close_lent.new.lent.desk c.close_lent.new.tale.items c.is_of_one_order-in-Ok.ensures c.given_are_its.ensures c.given_are_its-in-Ok.ensures c.in-Ok.ensures.asked c.in-Ok.closed c.close_lent.new.lent.since.items c.args.socket (subst (λ (w : Core g.row.P.Denot (Given g.row.P-Name.Denot g.row.P-Out.Denot g.row.P-In.Denot) g.row.P-Name.Denot g.row.P-Story.Denot). Agrees g.row.P-Waker.Denot g.P.Pipes.known w c.args.caller c.args.socket) (sym c.self.view_is) c.requires.agrees) c.in-Ok.ensures.ok).others

pub invariant_of-self-in-Err : goal.invariant_of-self-in-Err
invariant_of-self-in-Err g c = (acts_left g.row.P-Waker.Denot g.P.Pipes.known c.calls_go_on_so.ensures (core_of c.self.inside.lent.desk c.self.inside.lent.pipes c.self.inside.tale.items c.self.inside.wanted) c.self.inside.closed c.self.inside.drops.items c.self.invariant c.is_of_one_order.ensures c.args.caller c.args.socket (subst (λ (w : Core g.row.P.Denot (Given g.row.P-Name.Denot g.row.P-Out.Denot g.row.P-In.Denot) g.row.P-Name.Denot g.row.P-Story.Denot). Agrees g.row.P-Waker.Denot g.P.Pipes.known w c.args.caller c.args.socket) (sym c.self.view_is) c.requires.agrees) c.given_are_its.ensures c.close_lent.new.lent.pipes c.close_lent.new.lent.desk c.is_of_one_order-in-Err.ensures c.given_are_its-in-Err.ensures c.close_lent.new.tale.items c.in-Err.want.value c.close_lent.new.lent.since.items c.in-Err.ensures.back c.in-Err.ensures.err c.self.inside.drops.items).sound

pub returns-in-Err-clause-back : goal.returns-in-Err-clause-back
returns-in-Err-clause-back g c = (acts_left g.row.P-Waker.Denot g.P.Pipes.known c.calls_go_on_so.ensures (core_of c.self.inside.lent.desk c.self.inside.lent.pipes c.self.inside.tale.items c.self.inside.wanted) c.self.inside.closed c.self.inside.drops.items c.self.invariant c.is_of_one_order.ensures c.args.caller c.args.socket (subst (λ (w : Core g.row.P.Denot (Given g.row.P-Name.Denot g.row.P-Out.Denot g.row.P-In.Denot) g.row.P-Name.Denot g.row.P-Story.Denot). Agrees g.row.P-Waker.Denot g.P.Pipes.known w c.args.caller c.args.socket) (sym c.self.view_is) c.requires.agrees) c.given_are_its.ensures c.close_lent.new.lent.pipes c.close_lent.new.lent.desk c.is_of_one_order-in-Err.ensures c.given_are_its-in-Err.ensures c.close_lent.new.tale.items c.in-Err.want.value c.close_lent.new.lent.since.items c.in-Err.ensures.back c.in-Err.ensures.err c.self.inside.drops.items).lent

pub returns-in-Err-clause-keeps : goal.returns-in-Err-clause-keeps
returns-in-Err-clause-keeps g c =
    subst (λ (w : Core g.row.P.Denot (Given g.row.P-Name.Denot g.row.P-Out.Denot g.row.P-In.Denot) g.row.P-Name.Denot g.row.P-Story.Denot). KeepsOthers as_open (Agrees g.row.P-Waker.Denot g.P.Pipes.known) was_made c.args.caller (as_open c.args.socket).object w (core_of c.close_lent.new.lent.desk c.close_lent.new.lent.pipes c.close_lent.new.tale.items true)) c.self.view_is
    (acts_left g.row.P-Waker.Denot g.P.Pipes.known c.calls_go_on_so.ensures (core_of c.self.inside.lent.desk c.self.inside.lent.pipes c.self.inside.tale.items c.self.inside.wanted) c.self.inside.closed c.self.inside.drops.items c.self.invariant c.is_of_one_order.ensures c.args.caller c.args.socket (subst (λ (w : Core g.row.P.Denot (Given g.row.P-Name.Denot g.row.P-Out.Denot g.row.P-In.Denot) g.row.P-Name.Denot g.row.P-Story.Denot). Agrees g.row.P-Waker.Denot g.P.Pipes.known w c.args.caller c.args.socket) (sym c.self.view_is) c.requires.agrees) c.given_are_its.ensures c.close_lent.new.lent.pipes c.close_lent.new.lent.desk c.is_of_one_order-in-Err.ensures c.given_are_its-in-Err.ensures c.close_lent.new.tale.items c.in-Err.want.value c.close_lent.new.lent.since.items c.in-Err.ensures.back c.in-Err.ensures.err c.self.inside.drops.items).others
