use Rattle.std.specs.Prelude.{List, true}
use Rattle.std.proofs.Common.{sym, ap, subst}
use Rattle.desk.specs.declared.given.Given.{Given}
use Rattle.zq_world.specs.declared.marks.PieceMark.{PieceMark}
use Rattle.zq_world.specs.Way.{KeepsAll}
use Rattle.zq_world.specs.CoreCalls.{IsReaper, ReapsOne}
use Rattle.plain_core.specs.Agreeing.{was_made, Agrees}
use Rattle.plain_core.specs.Sound.{Core, core_of, pieces_in}
use Rattle.plain_core.proofs.ReapLemmas.{may_lend, reaped_left, room_left, wanting_left, IsLeftSo}
use Rattle.plain_core.proofs.context.OneCore.reap_one.Goals as goal

pub invariant_of-self : goal.invariant_of-self
invariant_of-self g c = (room_left g.row.P-Waker.Denot g.P.Pipes.known c.reaps_go_on_so.ensures (core_of c.self.inside.lent.desk c.self.inside.lent.pipes c.self.inside.tale.items c.self.inside.wanted) c.self.inside.closed c.make_room.new.closed c.self.inside.drops.items c.self.invariant c.make_room.ensures.kept c.make_room.ensures.indexed).sound

pub reap_lent-requires : goal.reap_lent-requires
reap_lent-requires g c = record {
  may = may_lend g.row.P-Waker.Denot g.P.Pipes.known c.reaps_go_on_so.ensures (core_of c.self.inside.lent.desk c.self.inside.lent.pipes c.self.inside.tale.items c.self.inside.wanted) c.self.inside.closed c.make_room.new.closed c.self.inside.drops.items c.self.invariant c.make_room.ensures.kept c.make_room.ensures.indexed c.stands.ensures c.args.caller (subst (λ (w : Core g.row.P.Denot (Given g.row.P-Name.Denot g.row.P-Out.Denot g.row.P-In.Denot) g.row.P-Name.Denot g.row.P-Story.Denot). IsReaper c.args.caller (pieces_in w)) (sym c.self.view_is) c.requires.alone) c.in-Ok.ensures.room;
}

pub invariant_of-self-in-Ok-reap_lent : goal.invariant_of-self-in-Ok-reap_lent
invariant_of-self-in-Ok-reap_lent g c = (reaped_left g.row.P-Waker.Denot g.P.Pipes.known c.reaps_go_on_so.ensures (core_of c.self.inside.lent.desk c.self.inside.lent.pipes c.self.inside.tale.items c.self.inside.wanted) c.self.inside.closed c.make_room.new.closed c.self.inside.drops.items c.self.invariant c.make_room.ensures.kept c.make_room.ensures.indexed c.stands.ensures c.args.caller (subst (λ (w : Core g.row.P.Denot (Given g.row.P-Name.Denot g.row.P-Out.Denot g.row.P-In.Denot) g.row.P-Name.Denot g.row.P-Story.Denot). IsReaper c.args.caller (pieces_in w)) (sym c.self.view_is) c.requires.alone) c.reap_lent.new.desk c.reap_lent.new.pipes c.reap_lent.new.closed c.reap_lent.new.tale.items c.in-Ok-reap_lent.ensures.ok).left.sound

pub returns-in-Ok-reap_lent-clause-ok : goal.returns-in-Ok-reap_lent-clause-ok
returns-in-Ok-reap_lent-clause-ok g c =
    subst (λ (w : Core g.row.P.Denot (Given g.row.P-Name.Denot g.row.P-Out.Denot g.row.P-In.Denot) g.row.P-Name.Denot g.row.P-Story.Denot). ReapsOne c.args.caller (pieces_in w) (pieces_in (core_of c.reap_lent.new.desk c.reap_lent.new.pipes c.reap_lent.new.tale.items c.self.inside.wanted))) c.self.view_is
    (reaped_left g.row.P-Waker.Denot g.P.Pipes.known c.reaps_go_on_so.ensures (core_of c.self.inside.lent.desk c.self.inside.lent.pipes c.self.inside.tale.items c.self.inside.wanted) c.self.inside.closed c.make_room.new.closed c.self.inside.drops.items c.self.invariant c.make_room.ensures.kept c.make_room.ensures.indexed c.stands.ensures c.args.caller (subst (λ (w : Core g.row.P.Denot (Given g.row.P-Name.Denot g.row.P-Out.Denot g.row.P-In.Denot) g.row.P-Name.Denot g.row.P-Story.Denot). IsReaper c.args.caller (pieces_in w)) (sym c.self.view_is) c.requires.alone) c.reap_lent.new.desk c.reap_lent.new.pipes c.reap_lent.new.closed c.reap_lent.new.tale.items c.in-Ok-reap_lent.ensures.ok).one

pub returns-in-Ok-reap_lent-clause-wanted : goal.returns-in-Ok-reap_lent-clause-wanted
returns-in-Ok-reap_lent-clause-wanted g c = ap (λ (w : Core g.row.P.Denot (Given g.row.P-Name.Denot g.row.P-Out.Denot g.row.P-In.Denot) g.row.P-Name.Denot g.row.P-Story.Denot). w.wanted) c.self.view_is

pub returns-in-Ok-reap_lent-clause-keeps : goal.returns-in-Ok-reap_lent-clause-keeps
returns-in-Ok-reap_lent-clause-keeps g c =
    subst (λ (w : Core g.row.P.Denot (Given g.row.P-Name.Denot g.row.P-Out.Denot g.row.P-In.Denot) g.row.P-Name.Denot g.row.P-Story.Denot). KeepsAll (Agrees g.row.P-Waker.Denot g.P.Pipes.known) was_made w (core_of c.reap_lent.new.desk c.reap_lent.new.pipes c.reap_lent.new.tale.items c.self.inside.wanted)) c.self.view_is
    (reaped_left g.row.P-Waker.Denot g.P.Pipes.known c.reaps_go_on_so.ensures (core_of c.self.inside.lent.desk c.self.inside.lent.pipes c.self.inside.tale.items c.self.inside.wanted) c.self.inside.closed c.make_room.new.closed c.self.inside.drops.items c.self.invariant c.make_room.ensures.kept c.make_room.ensures.indexed c.stands.ensures c.args.caller (subst (λ (w : Core g.row.P.Denot (Given g.row.P-Name.Denot g.row.P-Out.Denot g.row.P-In.Denot) g.row.P-Name.Denot g.row.P-Story.Denot). IsReaper c.args.caller (pieces_in w)) (sym c.self.view_is) c.requires.alone) c.reap_lent.new.desk c.reap_lent.new.pipes c.reap_lent.new.closed c.reap_lent.new.tale.items c.in-Ok-reap_lent.ensures.ok).left.keeps

pub invariant_of-self-in-Err-reap_lent : goal.invariant_of-self-in-Err-reap_lent
invariant_of-self-in-Err-reap_lent g c =
    (subst (λ (ms : List PieceMark). IsLeftSo g.row.P-Waker.Denot g.P.Pipes.known c.reap_lent.new.closed c.self.inside.drops.items (core_of c.self.inside.lent.desk c.self.inside.lent.pipes c.self.inside.tale.items c.self.inside.wanted) (core_of c.reap_lent.new.desk c.reap_lent.new.pipes ms true)) (sym c.in-Err-reap_lent.ensures.kept)
    (wanting_left g.row.P-Waker.Denot g.P.Pipes.known c.reaps_go_on_so.ensures (core_of c.self.inside.lent.desk c.self.inside.lent.pipes c.self.inside.tale.items c.self.inside.wanted) c.self.inside.closed c.make_room.new.closed c.self.inside.drops.items c.self.invariant c.make_room.ensures.kept c.make_room.ensures.indexed c.stands.ensures c.args.caller (subst (λ (w : Core g.row.P.Denot (Given g.row.P-Name.Denot g.row.P-Out.Denot g.row.P-In.Denot) g.row.P-Name.Denot g.row.P-Story.Denot). IsReaper c.args.caller (pieces_in w)) (sym c.self.view_is) c.requires.alone) c.reap_lent.new.desk c.reap_lent.new.pipes c.reap_lent.new.closed c.in-Err-reap_lent.ensures.err)).sound

pub returns-in-Err-reap_lent-clause-keeps : goal.returns-in-Err-reap_lent-clause-keeps
returns-in-Err-reap_lent-clause-keeps g c =
    subst (λ (w : Core g.row.P.Denot (Given g.row.P-Name.Denot g.row.P-Out.Denot g.row.P-In.Denot) g.row.P-Name.Denot g.row.P-Story.Denot). KeepsAll (Agrees g.row.P-Waker.Denot g.P.Pipes.known) was_made w (core_of c.reap_lent.new.desk c.reap_lent.new.pipes c.reap_lent.new.tale.items true)) c.self.view_is
    (subst (λ (ms : List PieceMark). IsLeftSo g.row.P-Waker.Denot g.P.Pipes.known c.reap_lent.new.closed c.self.inside.drops.items (core_of c.self.inside.lent.desk c.self.inside.lent.pipes c.self.inside.tale.items c.self.inside.wanted) (core_of c.reap_lent.new.desk c.reap_lent.new.pipes ms true)) (sym c.in-Err-reap_lent.ensures.kept)
    (wanting_left g.row.P-Waker.Denot g.P.Pipes.known c.reaps_go_on_so.ensures (core_of c.self.inside.lent.desk c.self.inside.lent.pipes c.self.inside.tale.items c.self.inside.wanted) c.self.inside.closed c.make_room.new.closed c.self.inside.drops.items c.self.invariant c.make_room.ensures.kept c.make_room.ensures.indexed c.stands.ensures c.args.caller (subst (λ (w : Core g.row.P.Denot (Given g.row.P-Name.Denot g.row.P-Out.Denot g.row.P-In.Denot) g.row.P-Name.Denot g.row.P-Story.Denot). IsReaper c.args.caller (pieces_in w)) (sym c.self.view_is) c.requires.alone) c.reap_lent.new.desk c.reap_lent.new.pipes c.reap_lent.new.closed c.in-Err-reap_lent.ensures.err)).keeps
