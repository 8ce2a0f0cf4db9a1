use Rattle.std.specs.Prelude.{◌≡◌, IfNone, IfSome}
use Rattle.std.proofs.Common.{sym, subst}
use Rattle.spec_control.specs.declared.entry.SeenEmpty.{SeenEmpty}
use Rattle.spec_control.specs.ControlRun.{AreEmpty}
use Rattle.ctl_plane.specs.Past.{control_of}
use Rattle.plain_desk.specs.Lent.{Sees}
use Rattle.plain_desk.proofs.one_desk.OneDesk.look_at.Goals as goal

pub returns-in-Nothing-clause-empty : goal.returns-in-Nothing-clause-empty
returns-in-Nothing-clause-empty g c = subst (λ (e : SeenEmpty). Sees e c.look_around.result c.args.self.now c.look_around.new.self) (sym c.in-Nothing.is) c.look_around.ensures.sees

pub returns-in-Mailbox-clause-empty : goal.returns-in-Mailbox-clause-empty
returns-in-Mailbox-clause-empty g c = subst (λ (e : SeenEmpty). IfSome c.look_into.result (λ sight. Sees e sight c.args.self.now c.look_into.new.self)) (sym c.in-Mailbox.is) c.look_into.ensures.empty

pub returns-in-Mailbox-clause-waits : goal.returns-in-Mailbox-clause-waits
returns-in-Mailbox-clause-waits g c = subst (λ (e : SeenEmpty). IfNone c.look_into.result ((c.look_into.new.self ≡ c.args.self.now) × (AreEmpty (control_of c.args.self.now.past) e → ⊥))) (sym c.in-Mailbox.is) c.look_into.ensures.waits

pub returns-in-Reapers-clause-empty : goal.returns-in-Reapers-clause-empty
returns-in-Reapers-clause-empty g c = subst (λ (e : SeenEmpty). IfSome c.look_at_reapers.result (λ sight. Sees e sight c.args.self.now c.look_at_reapers.new.self)) (sym c.in-Reapers.is) c.look_at_reapers.ensures.empty

pub returns-in-Reapers-clause-waits : goal.returns-in-Reapers-clause-waits
returns-in-Reapers-clause-waits g c = subst (λ (e : SeenEmpty). IfNone c.look_at_reapers.result ((c.look_at_reapers.new.self ≡ c.args.self.now) × (AreEmpty (control_of c.args.self.now.past) e → ⊥))) (sym c.in-Reapers.is) c.look_at_reapers.ensures.waits
