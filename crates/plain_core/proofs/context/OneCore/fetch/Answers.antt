use Rattle.std.specs.Prelude.{◌≡◌, true}
use Rattle.std.proofs.Common.{sym, ap, ◌∙◌, subst}
use Rattle.desk.specs.declared.given.Given.{Given}
use Rattle.spec_run.specs.CoreEvents.{may_take}
use Rattle.zq_world.specs.Way.{KeepsOthers}
use Rattle.plain_core.specs.Agreeing.{as_open, was_made, Agrees}
use Rattle.plain_core.specs.Sound.{Core, core_of, pieces_in}
use Rattle.zq_world.specs.Taking.{control_told, FetchesLetter}
use Rattle.plain_core.proofs.GoingLemmas.{acts_left}
use Rattle.plain_core.proofs.LentLemmas.{lendable}
use Rattle.plain_core.proofs.LetterLemmas.{fetch_done, lent_full}
use Rattle.plain_core.proofs.context.OneCore.fetch.Goals as goal

pub fetch_lent-requires-clause-waits : goal.fetch_lent-requires-clause-waits
fetch_lent-requires-clause-waits g c =
    lent_full g.P.Pipes.known (core_of c.self.inside.lent.desk c.self.inside.lent.pipes c.self.inside.tale.items c.self.inside.wanted) c.self.invariant.0 c.is_of_one_order.ensures c.args.caller c.args.socket.now (lendable g.row.P-Waker.Denot g.P.Pipes.known c.calls_go_on_so.ensures.lend (core_of c.self.inside.lent.desk c.self.inside.lent.pipes c.self.inside.tale.items c.self.inside.wanted) c.self.invariant.0 c.is_of_one_order.ensures c.args.caller c.args.socket.now (subst (λ (w : Core g.row.P.Denot (Given g.row.P-Name.Denot g.row.P-Out.Denot g.row.P-In.Denot) g.row.P-Name.Denot g.row.P-Story.Denot). Agrees g.row.P-Waker.Denot g.P.Pipes.known w c.args.caller c.args.socket.now) (sym c.self.view_is) c.requires.agrees)).view
    (subst (λ (w : Core g.row.P.Denot (Given g.row.P-Name.Denot g.row.P-Out.Denot g.row.P-In.Denot) g.row.P-Name.Denot g.row.P-Story.Denot). may_take (control_told (pieces_in w)) (as_open c.args.socket.now).slot ≡ true) (sym c.self.view_is) c.requires.waits)

pub invariant_of-self : goal.invariant_of-self
invariant_of-self g c = (fetch_done g.row.P-Waker.Denot g.P.Pipes.known c.calls_go_on_so.ensures (core_of c.self.inside.lent.desk c.self.inside.lent.pipes c.self.inside.tale.items c.self.inside.wanted) c.self.inside.closed c.self.inside.drops.items c.self.invariant c.is_of_one_order.ensures c.args.caller c.args.socket.now (subst (λ (w : Core g.row.P.Denot (Given g.row.P-Name.Denot g.row.P-Out.Denot g.row.P-In.Denot) g.row.P-Name.Denot g.row.P-Story.Denot). Agrees g.row.P-Waker.Denot g.P.Pipes.known w c.args.caller c.args.socket.now) (sym c.self.view_is) c.requires.agrees) c.given_are_its.ensures c.fetch_lent.new.lent.pipes c.fetch_lent.new.lent.desk c.is_of_one_order-in-Ok.ensures c.given_are_its-in-Ok.ensures c.fetch_lent.new.tale.items c.fetch_lent.new.socket c.fetch_lent.new.lent.since.items c.fetch_lent.ensures.agrees c.in-Ok.ensures.ok ((λ i. (c.self.view_is i).wanted) ∙ c.requires.not_wanted) c.in-Ok.ensures.ready (lendable g.row.P-Waker.Denot g.P.Pipes.known c.calls_go_on_so.ensures.lend (core_of c.self.inside.lent.desk c.self.inside.lent.pipes c.self.inside.tale.items c.self.inside.wanted) c.self.invariant.0 c.is_of_one_order.ensures c.args.caller c.args.socket.now (subst (λ (w : Core g.row.P.Denot (Given g.row.P-Name.Denot g.row.P-Out.Denot g.row.P-In.Denot) g.row.P-Name.Denot g.row.P-Story.Denot). Agrees g.row.P-Waker.Denot g.P.Pipes.known w c.args.caller c.args.socket.now) (sym c.self.view_is) c.requires.agrees)).view).left.sound

pub returns-in-Ok-clause-ok : goal.returns-in-Ok-clause-ok
returns-in-Ok-clause-ok g c =
    subst (λ (w : Core g.row.P.Denot (Given g.row.P-Name.Denot g.row.P-Out.Denot g.row.P-In.Denot) g.row.P-Name.Denot g.row.P-Story.Denot). FetchesLetter c.args.caller (as_open c.args.socket.now) (as_open c.fetch_lent.new.socket) (pieces_in w) (pieces_in (core_of c.fetch_lent.new.lent.desk c.fetch_lent.new.lent.pipes c.fetch_lent.new.tale.items c.self.inside.wanted))) c.self.view_is
    (fetch_done g.row.P-Waker.Denot g.P.Pipes.known c.calls_go_on_so.ensures (core_of c.self.inside.lent.desk c.self.inside.lent.pipes c.self.inside.tale.items c.self.inside.wanted) c.self.inside.closed c.self.inside.drops.items c.self.invariant c.is_of_one_order.ensures c.args.caller c.args.socket.now (subst (λ (w : Core g.row.P.Denot (Given g.row.P-Name.Denot g.row.P-Out.Denot g.row.P-In.Denot) g.row.P-Name.Denot g.row.P-Story.Denot). Agrees g.row.P-Waker.Denot g.P.Pipes.known w c.args.caller c.args.socket.now) (sym c.self.view_is) c.requires.agrees) c.given_are_its.ensures c.fetch_lent.new.lent.pipes c.fetch_lent.new.lent.desk c.is_of_one_order-in-Ok.ensures c.given_are_its-in-Ok.ensures c.fetch_lent.new.tale.items c.fetch_lent.new.socket c.fetch_lent.new.lent.since.items c.fetch_lent.ensures.agrees c.in-Ok.ensures.ok ((λ i. (c.self.view_is i).wanted) ∙ c.requires.not_wanted) c.in-Ok.ensures.ready (lendable g.row.P-Waker.Denot g.P.Pipes.known c.calls_go_on_so.ensures.lend (core_of c.self.inside.lent.desk c.self.inside.lent.pipes c.self.inside.tale.items c.self.inside.wanted) c.self.invariant.0 c.is_of_one_order.ensures c.args.caller c.args.socket.now (subst (λ (w : Core g.row.P.Denot (Given g.row.P-Name.Denot g.row.P-Out.Denot g.row.P-In.Denot) g.row.P-Name.Denot g.row.P-Story.Denot). Agrees g.row.P-Waker.Denot g.P.Pipes.known w c.args.caller c.args.socket.now) (sym c.self.view_is) c.requires.agrees)).view).one

pub returns-in-Ok-clause-lent : goal.returns-in-Ok-clause-lent
returns-in-Ok-clause-lent g c = (fetch_done g.row.P-Waker.Denot g.P.Pipes.known c.calls_go_on_so.ensures (core_of c.self.inside.lent.desk c.self.inside.lent.pipes c.self.inside.tale.items c.self.inside.wanted) c.self.inside.closed c.self.inside.drops.items c.self.invariant c.is_of_one_order.ensures c.args.caller c.args.socket.now (subst (λ (w : Core g.row.P.Denot (Given g.row.P-Name.Denot g.row.P-Out.Denot g.row.P-In.Denot) g.row.P-Name.Denot g.row.P-Story.Denot). Agrees g.row.P-Waker.Denot g.P.Pipes.known w c.args.caller c.args.socket.now) (sym c.self.view_is) c.requires.agrees) c.given_are_its.ensures c.fetch_lent.new.lent.pipes c.fetch_lent.new.lent.desk c.is_of_one_order-in-Ok.ensures c.given_are_its-in-Ok.ensures c.fetch_lent.new.tale.items c.fetch_lent.new.socket c.fetch_lent.new.lent.since.items c.fetch_lent.ensures.agrees c.in-Ok.ensures.ok ((λ i. (c.self.view_is i).wanted) ∙ c.requires.not_wanted) c.in-Ok.ensures.ready (lendable g.row.P-Waker.Denot g.P.Pipes.known c.calls_go_on_so.ensures.lend (core_of c.self.inside.lent.desk c.self.inside.lent.pipes c.self.inside.tale.items c.self.inside.wanted) c.self.invariant.0 c.is_of_one_order.ensures c.args.caller c.args.socket.now (subst (λ (w : Core g.row.P.Denot (Given g.row.P-Name.Denot g.row.P-Out.Denot g.row.P-In.Denot) g.row.P-Name.Denot g.row.P-Story.Denot). Agrees g.row.P-Waker.Denot g.P.Pipes.known w c.args.caller c.args.socket.now) (sym c.self.view_is) c.requires.agrees)).view).left.lent

pub returns-in-Ok-clause-wanted : goal.returns-in-Ok-clause-wanted
returns-in-Ok-clause-wanted g c = ap (λ (w : Core g.row.P.Denot (Given g.row.P-Name.Denot g.row.P-Out.Denot g.row.P-In.Denot) g.row.P-Name.Denot g.row.P-Story.Denot). w.wanted) c.self.view_is

pub returns-in-Ok-clause-keeps : goal.returns-in-Ok-clause-keeps
returns-in-Ok-clause-keeps g c =
    subst (λ (w : Core g.row.P.Denot (Given g.row.P-Name.Denot g.row.P-Out.Denot g.row.P-In.Denot) g.row.P-Name.Denot g.row.P-Story.Denot). KeepsOthers as_open (Agrees g.row.P-Waker.Denot g.P.Pipes.known) was_made c.args.caller (as_open c.args.socket.now).object w (core_of c.fetch_lent.new.lent.desk c.fetch_lent.new.lent.pipes c.fetch_lent.new.tale.items c.self.inside.wanted)) c.self.view_is
    (fetch_done g.row.P-Waker.Denot g.P.Pipes.known c.calls_go_on_so.ensures (core_of c.self.inside.lent.desk c.self.inside.lent.pipes c.self.inside.tale.items c.self.inside.wanted) c.self.inside.closed c.self.inside.drops.items c.self.invariant c.is_of_one_order.ensures c.args.caller c.args.socket.now (subst (λ (w : Core g.row.P.Denot (Given g.row.P-Name.Denot g.row.P-Out.Denot g.row.P-In.Denot) g.row.P-Name.Denot g.row.P-Story.Denot). Agrees g.row.P-Waker.Denot g.P.Pipes.known w c.args.caller c.args.socket.now) (sym c.self.view_is) c.requires.agrees) c.given_are_its.ensures c.fetch_lent.new.lent.pipes c.fetch_lent.new.lent.desk c.is_of_one_order-in-Ok.ensures c.given_are_its-in-Ok.ensures c.fetch_lent.new.tale.items c.fetch_lent.new.socket c.fetch_lent.new.lent.since.items c.fetch_lent.ensures.agrees c.in-Ok.ensures.ok ((λ i. (c.self.view_is i).wanted) ∙ c.requires.not_wanted) c.in-Ok.ensures.ready (lendable g.row.P-Waker.Denot g.P.Pipes.known c.calls_go_on_so.ensures.lend (core_of c.self.inside.lent.desk c.self.inside.lent.pipes c.self.inside.tale.items c.self.inside.wanted) c.self.invariant.0 c.is_of_one_order.ensures c.args.caller c.args.socket.now (subst (λ (w : Core g.row.P.Denot (Given g.row.P-Name.Denot g.row.P-Out.Denot g.row.P-In.Denot) g.row.P-Name.Denot g.row.P-Story.Denot). Agrees g.row.P-Waker.Denot g.P.Pipes.known w c.args.caller c.args.socket.now) (sym c.self.view_is) c.requires.agrees)).view).left.others

pub invariant_of-self-in-Err : goal.invariant_of-self-in-Err
invariant_of-self-in-Err g c = (acts_left g.row.P-Waker.Denot g.P.Pipes.known c.calls_go_on_so.ensures (core_of c.self.inside.lent.desk c.self.inside.lent.pipes c.self.inside.tale.items c.self.inside.wanted) c.self.inside.closed c.self.inside.drops.items c.self.invariant c.is_of_one_order.ensures c.args.caller c.args.socket.now (subst (λ (w : Core g.row.P.Denot (Given g.row.P-Name.Denot g.row.P-Out.Denot g.row.P-In.Denot) g.row.P-Name.Denot g.row.P-Story.Denot). Agrees g.row.P-Waker.Denot g.P.Pipes.known w c.args.caller c.args.socket.now) (sym c.self.view_is) c.requires.agrees) c.given_are_its.ensures c.fetch_lent.new.lent.pipes c.fetch_lent.new.lent.desk c.is_of_one_order-in-Err.ensures c.given_are_its-in-Err.ensures c.fetch_lent.new.tale.items c.fetch_lent.new.socket c.fetch_lent.new.lent.since.items c.fetch_lent.ensures.agrees c.in-Err.ensures.err c.self.inside.drops.items).sound

pub returns-in-Err-clause-lent : goal.returns-in-Err-clause-lent
returns-in-Err-clause-lent g c = (acts_left g.row.P-Waker.Denot g.P.Pipes.known c.calls_go_on_so.ensures (core_of c.self.inside.lent.desk c.self.inside.lent.pipes c.self.inside.tale.items c.self.inside.wanted) c.self.inside.closed c.self.inside.drops.items c.self.invariant c.is_of_one_order.ensures c.args.caller c.args.socket.now (subst (λ (w : Core g.row.P.Denot (Given g.row.P-Name.Denot g.row.P-Out.Denot g.row.P-In.Denot) g.row.P-Name.Denot g.row.P-Story.Denot). Agrees g.row.P-Waker.Denot g.P.Pipes.known w c.args.caller c.args.socket.now) (sym c.self.view_is) c.requires.agrees) c.given_are_its.ensures c.fetch_lent.new.lent.pipes c.fetch_lent.new.lent.desk c.is_of_one_order-in-Err.ensures c.given_are_its-in-Err.ensures c.fetch_lent.new.tale.items c.fetch_lent.new.socket c.fetch_lent.new.lent.since.items c.fetch_lent.ensures.agrees c.in-Err.ensures.err c.self.inside.drops.items).lent

pub returns-in-Err-clause-keeps : goal.returns-in-Err-clause-keeps
returns-in-Err-clause-keeps g c =
    subst (λ (w : Core g.row.P.Denot (Given g.row.P-Name.Denot g.row.P-Out.Denot g.row.P-In.Denot) g.row.P-Name.Denot g.row.P-Story.Denot). KeepsOthers as_open (Agrees g.row.P-Waker.Denot g.P.Pipes.known) was_made c.args.caller (as_open c.args.socket.now).object w (core_of c.fetch_lent.new.lent.desk c.fetch_lent.new.lent.pipes c.fetch_lent.new.tale.items true)) c.self.view_is
    (acts_left g.row.P-Waker.Denot g.P.Pipes.known c.calls_go_on_so.ensures (core_of c.self.inside.lent.desk c.self.inside.lent.pipes c.self.inside.tale.items c.self.inside.wanted) c.self.inside.closed c.self.inside.drops.items c.self.invariant c.is_of_one_order.ensures c.args.caller c.args.socket.now (subst (λ (w : Core g.row.P.Denot (Given g.row.P-Name.Denot g.row.P-Out.Denot g.row.P-In.Denot) g.row.P-Name.Denot g.row.P-Story.Denot). Agrees g.row.P-Waker.Denot g.P.Pipes.known w c.args.caller c.args.socket.now) (sym c.self.view_is) c.requires.agrees) c.given_are_its.ensures c.fetch_lent.new.lent.pipes c.fetch_lent.new.lent.desk c.is_of_one_order-in-Err.ensures c.given_are_its-in-Err.ensures c.fetch_lent.new.tale.items c.fetch_lent.new.socket c.fetch_lent.new.lent.since.items c.fetch_lent.ensures.agrees c.in-Err.ensures.err c.self.inside.drops.items).others
