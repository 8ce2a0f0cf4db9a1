use Rattle.std.proofs.Common.{sym, subst}
use Rattle.spec_control.specs.declared.entry.SeenEmpty.TheVariants.{Reapers}
use Rattle.spec_control.specs.ControlRun.{AreEmpty}
use Rattle.desk.specs.declared.given.Given.{Given}
use Rattle.ctl_plane.specs.Past.{control_of}
use Rattle.plain_desk.specs.Lent.{Lent, Sees}
use Rattle.plain_desk.proofs.one_desk.OneDesk.look_at_reapers.Goals as goal

pub returns-in-Some-clause-waits : goal.returns-in-Some-clause-waits
returns-in-Some-clause-waits g c = (c.first_slot.ensures.stays, λ empty. c.in-Some.ensures.some.full empty)

pub note_look-requires : goal.note_look-requires
note_look-requires g c = record { empty = subst (λ (d : Lent (Given g.row.P-Name.Denot g.row.P-Out.Denot g.row.P-In.Denot) g.row.P-Name.Denot g.row.P-Story.Denot). AreEmpty (control_of d.past) Reapers) (sym c.first_slot.ensures.stays) c.in-None.ensures.none }

pub returns-in-None-clause-empty : goal.returns-in-None-clause-empty
returns-in-None-clause-empty g c = subst (λ (d : Lent (Given g.row.P-Name.Denot g.row.P-Out.Denot g.row.P-In.Denot) g.row.P-Name.Denot g.row.P-Story.Denot). Sees Reapers c.note_look.result d c.note_look.new.self) c.first_slot.ensures.stays c.note_look.ensures.sees
