use Rattle.std.specs.Prelude.{◌≡◌, List, true}
use Rattle.std.proofs.Common.{sym, ap, subst}
use Rattle.desk.specs.declared.given.Given.{Given}
use Rattle.zq_world.specs.declared.marks.PieceMark.{PieceMark}
use Rattle.zq_world.specs.Way.{KeepsAll}
use Rattle.spec_run.specs.CoreEvents.{may_take}
use Rattle.zq_world.specs.CoreCalls.{IsReaper}
use Rattle.plain_core.specs.Agreeing.{was_made, Agrees}
use Rattle.plain_core.specs.Sound.{Core, core_of, pieces_in}
use Rattle.zq_world.specs.Taken.{is_reapers, ReapsAt}
use Rattle.zq_world.specs.Taking.{control_told}
use Rattle.plain_core.proofs.ReapLemmas.{may_lend, reaped_at_left, room_left, waits_for, wanting_left, IsLeftSo}
use Rattle.plain_core.proofs.context.OneCore.reap_at.Goals as goal

pub invariant_of-self : goal.invariant_of-self
invariant_of-self g c = (room_left g.row.P-Waker.Denot g.P.Pipes.known c.reaps_go_on_so.ensures (core_of c.self.inside.lent.desk c.self.inside.lent.pipes c.self.inside.tale.items c.self.inside.wanted) c.self.inside.closed c.make_room.new.closed c.self.inside.drops.items c.self.invariant c.make_room.ensures.kept c.make_room.ensures.indexed).sound

pub reap_at_lent-requires-clause-may : goal.reap_at_lent-requires-clause-may
reap_at_lent-requires-clause-may g c = may_lend g.row.P-Waker.Denot g.P.Pipes.known c.reaps_go_on_so.ensures (core_of c.self.inside.lent.desk c.self.inside.lent.pipes c.self.inside.tale.items c.self.inside.wanted) c.self.inside.closed c.make_room.new.closed c.self.inside.drops.items c.self.invariant c.make_room.ensures.kept c.make_room.ensures.indexed c.stands.ensures c.args.caller (subst (λ (w : Core g.row.P.Denot (Given g.row.P-Name.Denot g.row.P-Out.Denot g.row.P-In.Denot) g.row.P-Name.Denot g.row.P-Story.Denot). IsReaper c.args.caller (pieces_in w)) (sym c.self.view_is) c.requires.alone) c.in-Ok.ensures.room

pub reap_at_lent-requires-clause-waits : goal.reap_at_lent-requires-clause-waits
reap_at_lent-requires-clause-waits g c =
    waits_for g.P.Pipes.known (core_of c.self.inside.lent.desk c.self.inside.lent.pipes c.self.inside.tale.items c.self.inside.wanted) c.self.invariant.0 c.stands.ensures.order c.args.caller c.args.slot
    (subst (λ (w : Core g.row.P.Denot (Given g.row.P-Name.Denot g.row.P-Out.Denot g.row.P-In.Denot) g.row.P-Name.Denot g.row.P-Story.Denot). may_take (control_told (pieces_in w)) c.args.slot.0 ≡ true) (sym c.self.view_is) c.requires.waits)
    (subst (λ (w : Core g.row.P.Denot (Given g.row.P-Name.Denot g.row.P-Out.Denot g.row.P-In.Denot) g.row.P-Name.Denot g.row.P-Story.Denot). is_reapers (control_told (pieces_in w)) c.args.slot.0 ≡ true) (sym c.self.view_is) c.requires.mine)

pub invariant_of-self-in-Ok-reap_at_lent : goal.invariant_of-self-in-Ok-reap_at_lent
invariant_of-self-in-Ok-reap_at_lent g c = (reaped_at_left g.row.P-Waker.Denot g.P.Pipes.known c.reaps_go_on_so.ensures (core_of c.self.inside.lent.desk c.self.inside.lent.pipes c.self.inside.tale.items c.self.inside.wanted) c.self.inside.closed c.make_room.new.closed c.self.inside.drops.items c.self.invariant c.make_room.ensures.kept c.make_room.ensures.indexed c.stands.ensures c.args.caller (subst (λ (w : Core g.row.P.Denot (Given g.row.P-Name.Denot g.row.P-Out.Denot g.row.P-In.Denot) g.row.P-Name.Denot g.row.P-Story.Denot). IsReaper c.args.caller (pieces_in w)) (sym c.self.view_is) c.requires.alone) c.reap_at_lent.new.desk c.reap_at_lent.new.pipes c.reap_at_lent.new.closed c.args.slot c.reap_at_lent.new.tale.items c.in-Ok-reap_at_lent.ensures.ok).left.sound

pub returns-in-Ok-reap_at_lent-clause-ok : goal.returns-in-Ok-reap_at_lent-clause-ok
returns-in-Ok-reap_at_lent-clause-ok g c =
    subst (λ (w : Core g.row.P.Denot (Given g.row.P-Name.Denot g.row.P-Out.Denot g.row.P-In.Denot) g.row.P-Name.Denot g.row.P-Story.Denot). ReapsAt c.args.caller c.args.slot.0 (pieces_in w) (pieces_in (core_of c.reap_at_lent.new.desk c.reap_at_lent.new.pipes c.reap_at_lent.new.tale.items c.self.inside.wanted))) c.self.view_is
    (reaped_at_left g.row.P-Waker.Denot g.P.Pipes.known c.reaps_go_on_so.ensures (core_of c.self.inside.lent.desk c.self.inside.lent.pipes c.self.inside.tale.items c.self.inside.wanted) c.self.inside.closed c.make_room.new.closed c.self.inside.drops.items c.self.invariant c.make_room.ensures.kept c.make_room.ensures.indexed c.stands.ensures c.args.caller (subst (λ (w : Core g.row.P.Denot (Given g.row.P-Name.Denot g.row.P-Out.Denot g.row.P-In.Denot) g.row.P-Name.Denot g.row.P-Story.Denot). IsReaper c.args.caller (pieces_in w)) (sym c.self.view_is) c.requires.alone) c.reap_at_lent.new.desk c.reap_at_lent.new.pipes c.reap_at_lent.new.closed c.args.slot c.reap_at_lent.new.tale.items c.in-Ok-reap_at_lent.ensures.ok).one

pub returns-in-Ok-reap_at_lent-clause-wanted : goal.returns-in-Ok-reap_at_lent-clause-wanted
returns-in-Ok-reap_at_lent-clause-wanted g c = ap (λ (w : Core g.row.P.Denot (Given g.row.P-Name.Denot g.row.P-Out.Denot g.row.P-In.Denot) g.row.P-Name.Denot g.row.P-Story.Denot). w.wanted) c.self.view_is

pub returns-in-Ok-reap_at_lent-clause-keeps : goal.returns-in-Ok-reap_at_lent-clause-keeps
returns-in-Ok-reap_at_lent-clause-keeps g c =
    subst (λ (w : Core g.row.P.Denot (Given g.row.P-Name.Denot g.row.P-Out.Denot g.row.P-In.Denot) g.row.P-Name.Denot g.row.P-Story.Denot). KeepsAll (Agrees g.row.P-Waker.Denot g.P.Pipes.known) was_made w (core_of c.reap_at_lent.new.desk c.reap_at_lent.new.pipes c.reap_at_lent.new.tale.items c.self.inside.wanted)) c.self.view_is
    (reaped_at_left g.row.P-Waker.Denot g.P.Pipes.known c.reaps_go_on_so.ensures (core_of c.self.inside.lent.desk c.self.inside.lent.pipes c.self.inside.tale.items c.self.inside.wanted) c.self.inside.closed c.make_room.new.closed c.self.inside.drops.items c.self.invariant c.make_room.ensures.kept c.make_room.ensures.indexed c.stands.ensures c.args.caller (subst (λ (w : Core g.row.P.Denot (Given g.row.P-Name.Denot g.row.P-Out.Denot g.row.P-In.Denot) g.row.P-Name.Denot g.row.P-Story.Denot). IsReaper c.args.caller (pieces_in w)) (sym c.self.view_is) c.requires.alone) c.reap_at_lent.new.desk c.reap_at_lent.new.pipes c.reap_at_lent.new.closed c.args.slot c.reap_at_lent.new.tale.items c.in-Ok-reap_at_lent.ensures.ok).left.keeps

pub invariant_of-self-in-Err-reap_at_lent : goal.invariant_of-self-in-Err-reap_at_lent
invariant_of-self-in-Err-reap_at_lent g c =
    (subst (λ (ms : List PieceMark). IsLeftSo g.row.P-Waker.Denot g.P.Pipes.known c.reap_at_lent.new.closed c.self.inside.drops.items (core_of c.self.inside.lent.desk c.self.inside.lent.pipes c.self.inside.tale.items c.self.inside.wanted) (core_of c.reap_at_lent.new.desk c.reap_at_lent.new.pipes ms true)) (sym c.in-Err-reap_at_lent.ensures.kept)
    (wanting_left g.row.P-Waker.Denot g.P.Pipes.known c.reaps_go_on_so.ensures (core_of c.self.inside.lent.desk c.self.inside.lent.pipes c.self.inside.tale.items c.self.inside.wanted) c.self.inside.closed c.make_room.new.closed c.self.inside.drops.items c.self.invariant c.make_room.ensures.kept c.make_room.ensures.indexed c.stands.ensures c.args.caller (subst (λ (w : Core g.row.P.Denot (Given g.row.P-Name.Denot g.row.P-Out.Denot g.row.P-In.Denot) g.row.P-Name.Denot g.row.P-Story.Denot). IsReaper c.args.caller (pieces_in w)) (sym c.self.view_is) c.requires.alone) c.reap_at_lent.new.desk c.reap_at_lent.new.pipes c.reap_at_lent.new.closed c.in-Err-reap_at_lent.ensures.err)).sound

pub returns-in-Err-reap_at_lent-clause-keeps : goal.returns-in-Err-reap_at_lent-clause-keeps
returns-in-Err-reap_at_lent-clause-keeps g c =
    subst (λ (w : Core g.row.P.Denot (Given g.row.P-Name.Denot g.row.P-Out.Denot g.row.P-In.Denot) g.row.P-Name.Denot g.row.P-Story.Denot). KeepsAll (Agrees g.row.P-Waker.Denot g.P.Pipes.known) was_made w (core_of c.reap_at_lent.new.desk c.reap_at_lent.new.pipes c.reap_at_lent.new.tale.items true)) c.self.view_is
    (subst (λ (ms : List PieceMark). IsLeftSo g.row.P-Waker.Denot g.P.Pipes.known c.reap_at_lent.new.closed c.self.inside.drops.items (core_of c.self.inside.lent.desk c.self.inside.lent.pipes c.self.inside.tale.items c.self.inside.wanted) (core_of c.reap_at_lent.new.desk c.reap_at_lent.new.pipes ms true)) (sym c.in-Err-reap_at_lent.ensures.kept)
    (wanting_left g.row.P-Waker.Denot g.P.Pipes.known c.reaps_go_on_so.ensures (core_of c.self.inside.lent.desk c.self.inside.lent.pipes c.self.inside.tale.items c.self.inside.wanted) c.self.inside.closed c.make_room.new.closed c.self.inside.drops.items c.self.invariant c.make_room.ensures.kept c.make_room.ensures.indexed c.stands.ensures c.args.caller (subst (λ (w : Core g.row.P.Denot (Given g.row.P-Name.Denot g.row.P-Out.Denot g.row.P-In.Denot) g.row.P-Name.Denot g.row.P-Story.Denot). IsReaper c.args.caller (pieces_in w)) (sym c.self.view_is) c.requires.alone) c.reap_at_lent.new.desk c.reap_at_lent.new.pipes c.reap_at_lent.new.closed c.in-Err-reap_at_lent.ensures.err)).keeps
