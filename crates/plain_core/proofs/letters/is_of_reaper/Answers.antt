use Rattle.std.specs.Prelude.{◌-◌, true}
use Rattle.std.proofs.Common.{arith, sym, ap, ◌∙◌}
use Rattle.ctl_plane.specs.Past.{control_of}
use Rattle.core_laws.proofs.BoxesLemmas.{high_reapers, past_reapers, root_reapers, worker_reapers}
use Rattle.zq_world.specs.Taken.{is_reapers}
use Rattle.plain_core.proofs.letters.is_of_reaper.Goals as goal

pub returns-then-slot-eq0 : goal.returns-then-slot-eq0
returns-then-slot-eq0 g c = sym (ap (is_reapers (control_of c.args.desk.now.past)) c.if-slot-eq0.true ∙ root_reapers c.args.desk.now c.is_of_one_order.ensures)

pub returns-then-slot-le-WORKER : goal.returns-then-slot-le-WORKER
returns-then-slot-le-WORKER g c =
    sym (worker_reapers c.args.desk.now c.is_of_one_order.ensures c.args.slot.0 c.if-slot-eq0.false (let one = c.requires.one in let low = c.if-slot-le-WORKER.true in omega (arith, one, low)))

pub returns-then-socket-objects : goal.returns-then-socket-objects
returns-then-socket-objects g c =
    sym (past_reapers c.args.desk.now c.is_of_one_order.ensures c.args.slot.0 (c.args.slot.0 - 1) (let one = c.requires.one in let high = c.if-slot-le-WORKER.false in omega (arith, one, high)) c.if-slot-eq0.false
    (let high = c.if-slot-le-WORKER.false in omega (arith, high)) (let many = c.objects.ensures.many in let out = c.if-socket-objects.true in omega (arith, many, out)))

pub returns : goal.returns
returns g c =
    c.is_taken_over.ensures
    ∙ sym (high_reapers c.args.desk.now c.is_of_one_order.ensures c.args.slot.0 (c.args.slot.0 - 1) (let one = c.requires.one in let high = c.if-slot-le-WORKER.false in omega (arith, one, high)) c.if-slot-eq0.false
    (let high = c.if-slot-le-WORKER.false in omega (arith, high)))
