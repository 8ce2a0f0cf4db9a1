use Rattle.std.specs.Prelude.{◌-◌, not}
use Rattle.std.proofs.Common.{arith, sym, ap, ◌∙◌}
use Rattle.control_laws.proofs.ListLemmas.{never}
use Rattle.ctl_plane.specs.Past.{control_of}
use Rattle.core_laws.proofs.BoxesLemmas.{takes_high, takes_low, takes_none}
use Rattle.plain_core.proofs.letters.may_take_from.Goals as goal

pub returns-then-is_empty : goal.returns-then-is_empty
returns-then-is_empty g c = takes_none (control_of c.args.desk.now.past) c.args.slot.0 (c.is_empty.ensures.0 c.if-is_empty.true)

pub returns-then-slot-le-WORKER : goal.returns-then-slot-le-WORKER
returns-then-slot-le-WORKER g c =
    takes_low c.args.desk.now c.is_of_one_order.ensures c.args.slot.0 (let one = c.requires.one in let low = c.if-slot-le-WORKER.true in omega (arith, one, low))
    (λ none. never (sym c.if-is_empty.false ∙ c.is_empty.ensures.1 none))

pub returns : goal.returns
returns g c =
    ap not c.is_reap_coming.ensures
    ∙ takes_high c.args.desk.now c.is_of_one_order.ensures c.args.slot.0 (c.args.slot.0 - 1) (let high = c.if-slot-le-WORKER.false in omega (arith, high)) (let one = c.requires.one in let high = c.if-slot-le-WORKER.false in omega (arith, one, high))
    (λ none. never (sym c.if-is_empty.false ∙ c.is_empty.ensures.1 none))
