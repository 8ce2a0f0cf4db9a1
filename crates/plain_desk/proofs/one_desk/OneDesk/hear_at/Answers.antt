use Rattle.std.specs.Prelude.{◌≢◌, ℕ, [], OnOk}
use Rattle.std.proofs.Common.{sym, subst}
use Rattle.ctl_plane.specs.Past.{control_of}
use Rattle.desk.specs.Memory.{NoBindWaits}
use Rattle.plain_desk.specs.Reaping.{HearsFrom}
use Rattle.plain_desk.proofs.PlaneLemmas.{takes_same}
use Rattle.plain_desk.proofs.ReapingLemmas.{its_mailbox}
use Rattle.plain_desk.proofs.WaitLemmas.{whose_at}
use Rattle.plain_desk.proofs.one_desk.OneDesk.hear_at.Goals as goal

pub hear_root-requires-clause-waits : goal.hear_root-requires-clause-waits
hear_root-requires-clause-waits g c =
    subst (λ (n : ℕ). (control_of c.args.self.now.past).boxes n ≢ []) c.if-slot-eq0.true c.requires.waits.some

pub returns-then-slot-eq0-clause-ok : goal.returns-then-slot-eq0-clause-ok
returns-then-slot-eq0-clause-ok g c =
    subst (λ (n : ℕ). OnOk c.hear_root.result (HearsFrom (record { 0 = n }) c.args.self.now c.hear_root.new.self)) (sym c.if-slot-eq0.true) c.hear_root.ensures.ok

pub hear_closed-requires-clause-waits : goal.hear_closed-requires-clause-waits
hear_closed-requires-clause-waits g c = c.requires.waits.some

pub hear_closed-requires-clause-mine : goal.hear_closed-requires-clause-mine
hear_closed-requires-clause-mine g c =
    its_mailbox c.args.slot.0 c.args.self.now (whose_at c.args.self.now c.is_of_one_order.ensures c.args.slot c.requires.waits c.if-slot-eq0.false) (g.H.Holder.holding c.args.holder.now) c.requires.has c.requires.lent

pub hear_closed-requires-clause-fits : goal.hear_closed-requires-clause-fits
hear_closed-requires-clause-fits g c =
    let whose = whose_at c.args.self.now c.is_of_one_order.ensures c.args.slot c.requires.waits c.if-slot-eq0.false in
    c.requires.fits c.args.slot.0 whose.socket whose.serves

pub returns-clause-given : goal.returns-clause-given
returns-clause-given g c = takes_same _ _ c.hear_closed.ensures.given

pub returns-then-slot-eq0-clause-succeeds : goal.returns-then-slot-eq0-clause-succeeds
returns-then-slot-eq0-clause-succeeds g c = λ none.
    c.hear_root.ensures.succeeds (subst (λ (n : ℕ). NoBindWaits (control_of c.args.self.now.past) n) c.if-slot-eq0.true none)
