use Rattle.std.specs.Prelude.{◌≡◌, ℕ, true, drop, Result, Ok, OnOk}
use Rattle.std.proofs.Common.{sym, ap, ◌∙◌, subst}
use Rattle.desk.specs.declared.given.Given.{Given}
use Rattle.ctl_plane.specs.Past.{control_of}
use Rattle.sock_calls.specs.Calls.{owner_of}
use Rattle.zq_world.specs.Way.{CallsOne, KeepsOthers}
use Rattle.plain_core.specs.Dropped.{CountsTold}
use Rattle.plain_core.specs.Agreeing.{as_open, was_made, Agrees}
use Rattle.plain_core.specs.Sound.{Core, core_of, pieces_in}
use Rattle.plain_core.proofs.GoingLemmas.{acts_left, line_done, line_left}
use Rattle.plain_core.proofs.LentLemmas.{lendable}
use Rattle.plain_core.proofs.context.OneCore.call.Goals as goal

at_ok : {A E : Type 0} {r : Result A E} {a : A} (P : Type 0) → r ≡ Ok a → OnOk r P → P
at_ok {A = A} {E = E} P is h = subst (λ (x : Result A E). OnOk x P) is h

pub invariant_of-self : goal.invariant_of-self
invariant_of-self g c = (line_done g.row.P-Waker.Denot g.P.Pipes.known c.calls_go_on_so.ensures (core_of c.self.inside.lent.desk c.self.inside.lent.pipes c.self.inside.tale.items c.self.inside.wanted) c.self.inside.closed c.self.inside.drops.items c.self.invariant c.is_of_one_order.ensures c.args.caller c.args.socket.now (subst (λ (w : Core g.row.P.Denot (Given g.row.P-Name.Denot g.row.P-Out.Denot g.row.P-In.Denot) g.row.P-Name.Denot g.row.P-Story.Denot). Agrees g.row.P-Waker.Denot g.P.Pipes.known w c.args.caller c.args.socket.now) (sym c.self.view_is) c.requires.agrees) c.given_are_its.ensures c.call_lent.new.lent.pipes c.call_lent.new.lent.desk c.is_of_one_order-in-Ok.ensures c.given_are_its-in-Ok.ensures c.call_lent.new.tale.items c.call_lent.new.socket c.call_lent.new.lent.since.items c.call_lent.ensures.agrees c.args.line.now c.in-Ok.answer c.args.told.now.items c.call_lent.new.told.items c.in-Ok.ensures.ok ((λ i. (c.self.view_is i).wanted) ∙ c.requires.not_wanted) c.in-Ok.ensures.ready (lendable g.row.P-Waker.Denot g.P.Pipes.known c.calls_go_on_so.ensures.lend (core_of c.self.inside.lent.desk c.self.inside.lent.pipes c.self.inside.tale.items c.self.inside.wanted) c.self.invariant.0 c.is_of_one_order.ensures c.args.caller c.args.socket.now (subst (λ (w : Core g.row.P.Denot (Given g.row.P-Name.Denot g.row.P-Out.Denot g.row.P-In.Denot) g.row.P-Name.Denot g.row.P-Story.Denot). Agrees g.row.P-Waker.Denot g.P.Pipes.known w c.args.caller c.args.socket.now) (sym c.self.view_is) c.requires.agrees)).view c.count_drops.new.drops.items
    (subst (λ (n : ℕ). CountsTold (control_of c.call_lent.new.lent.desk.past) (owner_of c.args.socket.now) (drop n c.call_lent.new.told.items) c.self.inside.drops.items c.count_drops.new.drops.items) c.many_told-before.ensures
    (subst (λ (n : ℕ). CountsTold (control_of c.call_lent.new.lent.desk.past) n (drop c.many_told-before.result c.call_lent.new.told.items) c.self.inside.drops.items c.count_drops.new.drops.items) c.number_in-object.ensures (at_ok (CountsTold (control_of c.call_lent.new.lent.desk.past) c.number_in-object.result.0 (drop c.many_told-before.result c.call_lent.new.told.items) c.self.inside.drops.items c.count_drops.new.drops.items) c.in-Ok-count_drops.is c.count_drops.ensures)))).left.sound

pub returns-in-Ok-count_drops-clause-ok : goal.returns-in-Ok-count_drops-clause-ok
returns-in-Ok-count_drops-clause-ok g c =
    subst (λ (w : Core g.row.P.Denot (Given g.row.P-Name.Denot g.row.P-Out.Denot g.row.P-In.Denot) g.row.P-Name.Denot g.row.P-Story.Denot). CallsOne c.args.caller c.args.line.now (as_open c.args.socket.now) (as_open c.call_lent.new.socket) c.in-Ok.answer c.args.told.now.items c.call_lent.new.told.items (pieces_in w) (pieces_in (core_of c.call_lent.new.lent.desk c.call_lent.new.lent.pipes c.call_lent.new.tale.items c.self.inside.wanted))) c.self.view_is
    (line_done g.row.P-Waker.Denot g.P.Pipes.known c.calls_go_on_so.ensures (core_of c.self.inside.lent.desk c.self.inside.lent.pipes c.self.inside.tale.items c.self.inside.wanted) c.self.inside.closed c.self.inside.drops.items c.self.invariant c.is_of_one_order.ensures c.args.caller c.args.socket.now (subst (λ (w : Core g.row.P.Denot (Given g.row.P-Name.Denot g.row.P-Out.Denot g.row.P-In.Denot) g.row.P-Name.Denot g.row.P-Story.Denot). Agrees g.row.P-Waker.Denot g.P.Pipes.known w c.args.caller c.args.socket.now) (sym c.self.view_is) c.requires.agrees) c.given_are_its.ensures c.call_lent.new.lent.pipes c.call_lent.new.lent.desk c.is_of_one_order-in-Ok.ensures c.given_are_its-in-Ok.ensures c.call_lent.new.tale.items c.call_lent.new.socket c.call_lent.new.lent.since.items c.call_lent.ensures.agrees c.args.line.now c.in-Ok.answer c.args.told.now.items c.call_lent.new.told.items c.in-Ok.ensures.ok ((λ i. (c.self.view_is i).wanted) ∙ c.requires.not_wanted) c.in-Ok.ensures.ready (lendable g.row.P-Waker.Denot g.P.Pipes.known c.calls_go_on_so.ensures.lend (core_of c.self.inside.lent.desk c.self.inside.lent.pipes c.self.inside.tale.items c.self.inside.wanted) c.self.invariant.0 c.is_of_one_order.ensures c.args.caller c.args.socket.now (subst (λ (w : Core g.row.P.Denot (Given g.row.P-Name.Denot g.row.P-Out.Denot g.row.P-In.Denot) g.row.P-Name.Denot g.row.P-Story.Denot). Agrees g.row.P-Waker.Denot g.P.Pipes.known w c.args.caller c.args.socket.now) (sym c.self.view_is) c.requires.agrees)).view c.count_drops.new.drops.items
    (subst (λ (n : ℕ). CountsTold (control_of c.call_lent.new.lent.desk.past) (owner_of c.args.socket.now) (drop n c.call_lent.new.told.items) c.self.inside.drops.items c.count_drops.new.drops.items) c.many_told-before.ensures
    (subst (λ (n : ℕ). CountsTold (control_of c.call_lent.new.lent.desk.past) n (drop c.many_told-before.result c.call_lent.new.told.items) c.self.inside.drops.items c.count_drops.new.drops.items) c.number_in-object.ensures (at_ok (CountsTold (control_of c.call_lent.new.lent.desk.past) c.number_in-object.result.0 (drop c.many_told-before.result c.call_lent.new.told.items) c.self.inside.drops.items c.count_drops.new.drops.items) c.in-Ok-count_drops.is c.count_drops.ensures)))).one

pub returns-in-Ok-count_drops-clause-lent : goal.returns-in-Ok-count_drops-clause-lent
returns-in-Ok-count_drops-clause-lent g c = (line_done g.row.P-Waker.Denot g.P.Pipes.known c.calls_go_on_so.ensures (core_of c.self.inside.lent.desk c.self.inside.lent.pipes c.self.inside.tale.items c.self.inside.wanted) c.self.inside.closed c.self.inside.drops.items c.self.invariant c.is_of_one_order.ensures c.args.caller c.args.socket.now (subst (λ (w : Core g.row.P.Denot (Given g.row.P-Name.Denot g.row.P-Out.Denot g.row.P-In.Denot) g.row.P-Name.Denot g.row.P-Story.Denot). Agrees g.row.P-Waker.Denot g.P.Pipes.known w c.args.caller c.args.socket.now) (sym c.self.view_is) c.requires.agrees) c.given_are_its.ensures c.call_lent.new.lent.pipes c.call_lent.new.lent.desk c.is_of_one_order-in-Ok.ensures c.given_are_its-in-Ok.ensures c.call_lent.new.tale.items c.call_lent.new.socket c.call_lent.new.lent.since.items c.call_lent.ensures.agrees c.args.line.now c.in-Ok.answer c.args.told.now.items c.call_lent.new.told.items c.in-Ok.ensures.ok ((λ i. (c.self.view_is i).wanted) ∙ c.requires.not_wanted) c.in-Ok.ensures.ready (lendable g.row.P-Waker.Denot g.P.Pipes.known c.calls_go_on_so.ensures.lend (core_of c.self.inside.lent.desk c.self.inside.lent.pipes c.self.inside.tale.items c.self.inside.wanted) c.self.invariant.0 c.is_of_one_order.ensures c.args.caller c.args.socket.now (subst (λ (w : Core g.row.P.Denot (Given g.row.P-Name.Denot g.row.P-Out.Denot g.row.P-In.Denot) g.row.P-Name.Denot g.row.P-Story.Denot). Agrees g.row.P-Waker.Denot g.P.Pipes.known w c.args.caller c.args.socket.now) (sym c.self.view_is) c.requires.agrees)).view c.count_drops.new.drops.items
    (subst (λ (n : ℕ). CountsTold (control_of c.call_lent.new.lent.desk.past) (owner_of c.args.socket.now) (drop n c.call_lent.new.told.items) c.self.inside.drops.items c.count_drops.new.drops.items) c.many_told-before.ensures
    (subst (λ (n : ℕ). CountsTold (control_of c.call_lent.new.lent.desk.past) n (drop c.many_told-before.result c.call_lent.new.told.items) c.self.inside.drops.items c.count_drops.new.drops.items) c.number_in-object.ensures (at_ok (CountsTold (control_of c.call_lent.new.lent.desk.past) c.number_in-object.result.0 (drop c.many_told-before.result c.call_lent.new.told.items) c.self.inside.drops.items c.count_drops.new.drops.items) c.in-Ok-count_drops.is c.count_drops.ensures)))).left.lent

pub returns-in-Ok-count_drops-clause-wanted : goal.returns-in-Ok-count_drops-clause-wanted
returns-in-Ok-count_drops-clause-wanted g c = ap (λ (w : Core g.row.P.Denot (Given g.row.P-Name.Denot g.row.P-Out.Denot g.row.P-In.Denot) g.row.P-Name.Denot g.row.P-Story.Denot). w.wanted) c.self.view_is

pub returns-in-Ok-count_drops-clause-keeps : goal.returns-in-Ok-count_drops-clause-keeps
returns-in-Ok-count_drops-clause-keeps g c =
    subst (λ (w : Core g.row.P.Denot (Given g.row.P-Name.Denot g.row.P-Out.Denot g.row.P-In.Denot) g.row.P-Name.Denot g.row.P-Story.Denot). KeepsOthers as_open (Agrees g.row.P-Waker.Denot g.P.Pipes.known) was_made c.args.caller (as_open c.args.socket.now).object w (core_of c.call_lent.new.lent.desk c.call_lent.new.lent.pipes c.call_lent.new.tale.items c.self.inside.wanted)) c.self.view_is
    (line_done g.row.P-Waker.Denot g.P.Pipes.known c.calls_go_on_so.ensures (core_of c.self.inside.lent.desk c.self.inside.lent.pipes c.self.inside.tale.items c.self.inside.wanted) c.self.inside.closed c.self.inside.drops.items c.self.invariant c.is_of_one_order.ensures c.args.caller c.args.socket.now (subst (λ (w : Core g.row.P.Denot (Given g.row.P-Name.Denot g.row.P-Out.Denot g.row.P-In.Denot) g.row.P-Name.Denot g.row.P-Story.Denot). Agrees g.row.P-Waker.Denot g.P.Pipes.known w c.args.caller c.args.socket.now) (sym c.self.view_is) c.requires.agrees) c.given_are_its.ensures c.call_lent.new.lent.pipes c.call_lent.new.lent.desk c.is_of_one_order-in-Ok.ensures c.given_are_its-in-Ok.ensures c.call_lent.new.tale.items c.call_lent.new.socket c.call_lent.new.lent.since.items c.call_lent.ensures.agrees c.args.line.now c.in-Ok.answer c.args.told.now.items c.call_lent.new.told.items c.in-Ok.ensures.ok ((λ i. (c.self.view_is i).wanted) ∙ c.requires.not_wanted) c.in-Ok.ensures.ready (lendable g.row.P-Waker.Denot g.P.Pipes.known c.calls_go_on_so.ensures.lend (core_of c.self.inside.lent.desk c.self.inside.lent.pipes c.self.inside.tale.items c.self.inside.wanted) c.self.invariant.0 c.is_of_one_order.ensures c.args.caller c.args.socket.now (subst (λ (w : Core g.row.P.Denot (Given g.row.P-Name.Denot g.row.P-Out.Denot g.row.P-In.Denot) g.row.P-Name.Denot g.row.P-Story.Denot). Agrees g.row.P-Waker.Denot g.P.Pipes.known w c.args.caller c.args.socket.now) (sym c.self.view_is) c.requires.agrees)).view c.count_drops.new.drops.items
    (subst (λ (n : ℕ). CountsTold (control_of c.call_lent.new.lent.desk.past) (owner_of c.args.socket.now) (drop n c.call_lent.new.told.items) c.self.inside.drops.items c.count_drops.new.drops.items) c.many_told-before.ensures
    (subst (λ (n : ℕ). CountsTold (control_of c.call_lent.new.lent.desk.past) n (drop c.many_told-before.result c.call_lent.new.told.items) c.self.inside.drops.items c.count_drops.new.drops.items) c.number_in-object.ensures (at_ok (CountsTold (control_of c.call_lent.new.lent.desk.past) c.number_in-object.result.0 (drop c.many_told-before.result c.call_lent.new.told.items) c.self.inside.drops.items c.count_drops.new.drops.items) c.in-Ok-count_drops.is c.count_drops.ensures)))).left.others

pub invariant_of-self-in-Err-count_drops : goal.invariant_of-self-in-Err-count_drops
invariant_of-self-in-Err-count_drops g c = (line_left g.row.P-Waker.Denot g.P.Pipes.known c.calls_go_on_so.ensures (core_of c.self.inside.lent.desk c.self.inside.lent.pipes c.self.inside.tale.items c.self.inside.wanted) c.self.inside.closed c.self.inside.drops.items c.self.invariant c.is_of_one_order.ensures c.args.caller c.args.socket.now (subst (λ (w : Core g.row.P.Denot (Given g.row.P-Name.Denot g.row.P-Out.Denot g.row.P-In.Denot) g.row.P-Name.Denot g.row.P-Story.Denot). Agrees g.row.P-Waker.Denot g.P.Pipes.known w c.args.caller c.args.socket.now) (sym c.self.view_is) c.requires.agrees) c.given_are_its.ensures c.call_lent.new.lent.pipes c.call_lent.new.lent.desk c.is_of_one_order-in-Ok.ensures c.given_are_its-in-Ok.ensures c.call_lent.new.tale.items c.call_lent.new.socket c.call_lent.new.lent.since.items c.call_lent.ensures.agrees c.args.line.now c.in-Ok.answer c.args.told.now.items c.call_lent.new.told.items c.in-Ok.ensures.ok c.count_drops.new.drops.items).sound

pub returns-in-Err-count_drops-clause-lent : goal.returns-in-Err-count_drops-clause-lent
returns-in-Err-count_drops-clause-lent g c = (line_left g.row.P-Waker.Denot g.P.Pipes.known c.calls_go_on_so.ensures (core_of c.self.inside.lent.desk c.self.inside.lent.pipes c.self.inside.tale.items c.self.inside.wanted) c.self.inside.closed c.self.inside.drops.items c.self.invariant c.is_of_one_order.ensures c.args.caller c.args.socket.now (subst (λ (w : Core g.row.P.Denot (Given g.row.P-Name.Denot g.row.P-Out.Denot g.row.P-In.Denot) g.row.P-Name.Denot g.row.P-Story.Denot). Agrees g.row.P-Waker.Denot g.P.Pipes.known w c.args.caller c.args.socket.now) (sym c.self.view_is) c.requires.agrees) c.given_are_its.ensures c.call_lent.new.lent.pipes c.call_lent.new.lent.desk c.is_of_one_order-in-Ok.ensures c.given_are_its-in-Ok.ensures c.call_lent.new.tale.items c.call_lent.new.socket c.call_lent.new.lent.since.items c.call_lent.ensures.agrees c.args.line.now c.in-Ok.answer c.args.told.now.items c.call_lent.new.told.items c.in-Ok.ensures.ok c.count_drops.new.drops.items).lent

pub returns-in-Err-count_drops-clause-keeps : goal.returns-in-Err-count_drops-clause-keeps
returns-in-Err-count_drops-clause-keeps g c =
    subst (λ (w : Core g.row.P.Denot (Given g.row.P-Name.Denot g.row.P-Out.Denot g.row.P-In.Denot) g.row.P-Name.Denot g.row.P-Story.Denot). KeepsOthers as_open (Agrees g.row.P-Waker.Denot g.P.Pipes.known) was_made c.args.caller (as_open c.args.socket.now).object w (core_of c.call_lent.new.lent.desk c.call_lent.new.lent.pipes c.call_lent.new.tale.items true)) c.self.view_is
    (line_left g.row.P-Waker.Denot g.P.Pipes.known c.calls_go_on_so.ensures (core_of c.self.inside.lent.desk c.self.inside.lent.pipes c.self.inside.tale.items c.self.inside.wanted) c.self.inside.closed c.self.inside.drops.items c.self.invariant c.is_of_one_order.ensures c.args.caller c.args.socket.now (subst (λ (w : Core g.row.P.Denot (Given g.row.P-Name.Denot g.row.P-Out.Denot g.row.P-In.Denot) g.row.P-Name.Denot g.row.P-Story.Denot). Agrees g.row.P-Waker.Denot g.P.Pipes.known w c.args.caller c.args.socket.now) (sym c.self.view_is) c.requires.agrees) c.given_are_its.ensures c.call_lent.new.lent.pipes c.call_lent.new.lent.desk c.is_of_one_order-in-Ok.ensures c.given_are_its-in-Ok.ensures c.call_lent.new.tale.items c.call_lent.new.socket c.call_lent.new.lent.since.items c.call_lent.ensures.agrees c.args.line.now c.in-Ok.answer c.args.told.now.items c.call_lent.new.told.items c.in-Ok.ensures.ok c.count_drops.new.drops.items).others

pub invariant_of-self-in-Err : goal.invariant_of-self-in-Err
invariant_of-self-in-Err g c = (acts_left g.row.P-Waker.Denot g.P.Pipes.known c.calls_go_on_so.ensures (core_of c.self.inside.lent.desk c.self.inside.lent.pipes c.self.inside.tale.items c.self.inside.wanted) c.self.inside.closed c.self.inside.drops.items c.self.invariant c.is_of_one_order.ensures c.args.caller c.args.socket.now (subst (λ (w : Core g.row.P.Denot (Given g.row.P-Name.Denot g.row.P-Out.Denot g.row.P-In.Denot) g.row.P-Name.Denot g.row.P-Story.Denot). Agrees g.row.P-Waker.Denot g.P.Pipes.known w c.args.caller c.args.socket.now) (sym c.self.view_is) c.requires.agrees) c.given_are_its.ensures c.call_lent.new.lent.pipes c.call_lent.new.lent.desk c.is_of_one_order-in-Err.ensures c.given_are_its-in-Err.ensures c.call_lent.new.tale.items c.call_lent.new.socket c.call_lent.new.lent.since.items c.call_lent.ensures.agrees c.in-Err.ensures.err c.self.inside.drops.items).sound

pub returns-in-Err-clause-lent : goal.returns-in-Err-clause-lent
returns-in-Err-clause-lent g c = (acts_left g.row.P-Waker.Denot g.P.Pipes.known c.calls_go_on_so.ensures (core_of c.self.inside.lent.desk c.self.inside.lent.pipes c.self.inside.tale.items c.self.inside.wanted) c.self.inside.closed c.self.inside.drops.items c.self.invariant c.is_of_one_order.ensures c.args.caller c.args.socket.now (subst (λ (w : Core g.row.P.Denot (Given g.row.P-Name.Denot g.row.P-Out.Denot g.row.P-In.Denot) g.row.P-Name.Denot g.row.P-Story.Denot). Agrees g.row.P-Waker.Denot g.P.Pipes.known w c.args.caller c.args.socket.now) (sym c.self.view_is) c.requires.agrees) c.given_are_its.ensures c.call_lent.new.lent.pipes c.call_lent.new.lent.desk c.is_of_one_order-in-Err.ensures c.given_are_its-in-Err.ensures c.call_lent.new.tale.items c.call_lent.new.socket c.call_lent.new.lent.since.items c.call_lent.ensures.agrees c.in-Err.ensures.err c.self.inside.drops.items).lent

pub returns-in-Err-clause-keeps : goal.returns-in-Err-clause-keeps
returns-in-Err-clause-keeps g c =
    subst (λ (w : Core g.row.P.Denot (Given g.row.P-Name.Denot g.row.P-Out.Denot g.row.P-In.Denot) g.row.P-Name.Denot g.row.P-Story.Denot). KeepsOthers as_open (Agrees g.row.P-Waker.Denot g.P.Pipes.known) was_made c.args.caller (as_open c.args.socket.now).object w (core_of c.call_lent.new.lent.desk c.call_lent.new.lent.pipes c.call_lent.new.tale.items true)) c.self.view_is
    (acts_left g.row.P-Waker.Denot g.P.Pipes.known c.calls_go_on_so.ensures (core_of c.self.inside.lent.desk c.self.inside.lent.pipes c.self.inside.tale.items c.self.inside.wanted) c.self.inside.closed c.self.inside.drops.items c.self.invariant c.is_of_one_order.ensures c.args.caller c.args.socket.now (subst (λ (w : Core g.row.P.Denot (Given g.row.P-Name.Denot g.row.P-Out.Denot g.row.P-In.Denot) g.row.P-Name.Denot g.row.P-Story.Denot). Agrees g.row.P-Waker.Denot g.P.Pipes.known w c.args.caller c.args.socket.now) (sym c.self.view_is) c.requires.agrees) c.given_are_its.ensures c.call_lent.new.lent.pipes c.call_lent.new.lent.desk c.is_of_one_order-in-Err.ensures c.given_are_its-in-Err.ensures c.call_lent.new.tale.items c.call_lent.new.socket c.call_lent.new.lent.since.items c.call_lent.ensures.agrees c.in-Err.ensures.err c.self.inside.drops.items).others
