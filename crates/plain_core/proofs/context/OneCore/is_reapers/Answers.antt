use Rattle.std.proofs.Common.{arith, sym, ap, ◌∙◌}
use Rattle.spec_control.specs.Control.{Control}
use Rattle.desk.specs.declared.given.Given.{Given}
use Rattle.ctl_plane.specs.Past.{control_of}
use Rattle.zq_world.specs.Taken.{is_reapers}
use Rattle.plain_core.specs.Sound.{Core, core_of, pieces_in}
use Rattle.zq_world.specs.Taking.{control_told}
use Rattle.plain_core.proofs.LetterLemmas.{far_reapers, told_control}
use Rattle.plain_core.proofs.context.OneCore.is_reapers.Goals as goal

pub is_of_reaper-requires : goal.is_of_reaper-requires
is_of_reaper-requires g c = record { one = c.self.invariant.0.one }

pub returns-in-Some : goal.returns-in-Some
returns-in-Some g c =
    c.is_of_reaper.ensures ∙ ap (is_reapers (control_of c.self.inside.lent.desk.past)) c.in-Some.ensures.some
    ∙ ap (λ (x : Control). is_reapers x c.args.slot) (sym (told_control g.P.Pipes.known (core_of c.self.inside.lent.desk c.self.inside.lent.pipes c.self.inside.tale.items c.self.inside.wanted) c.self.invariant.0 c.is_of_one_order.ensures))
    ∙ ap (λ (w : Core g.row.P.Denot (Given g.row.P-Name.Denot g.row.P-Out.Denot g.row.P-In.Denot) g.row.P-Name.Denot g.row.P-Story.Denot). is_reapers (control_told (pieces_in w)) c.args.slot) c.self.view_is

pub returns-in-None : goal.returns-in-None
returns-in-None g c =
    far_reapers c.self.inside.lent.desk c.is_of_one_order.ensures c.self.invariant.0.one (let many = c.objects.ensures.many in let few = c.objects.ensures.few in omega (arith, many, few)) c.args.slot c.in-None.ensures.none
    ∙ ap (λ (x : Control). is_reapers x c.args.slot) (sym (told_control g.P.Pipes.known (core_of c.self.inside.lent.desk c.self.inside.lent.pipes c.self.inside.tale.items c.self.inside.wanted) c.self.invariant.0 c.is_of_one_order.ensures))
    ∙ ap (λ (w : Core g.row.P.Denot (Given g.row.P-Name.Denot g.row.P-Out.Denot g.row.P-In.Denot) g.row.P-Name.Denot g.row.P-Story.Denot). is_reapers (control_told (pieces_in w)) c.args.slot) c.self.view_is
