use Rattle.std.proofs.Common.{arith, sym, ap, ◌∙◌}
use Rattle.spec_control.specs.Control.{Control}
use Rattle.desk.specs.declared.given.Given.{Given}
use Rattle.ctl_plane.specs.Past.{control_of}
use Rattle.spec_run.specs.CoreEvents.{may_take}
use Rattle.plain_core.specs.Sound.{Core, core_of, pieces_in}
use Rattle.zq_world.specs.Taking.{control_told}
use Rattle.plain_core.proofs.LetterLemmas.{far_takes, told_control}
use Rattle.plain_core.proofs.context.OneCore.may_take.Goals as goal

pub may_take_from-requires : goal.may_take_from-requires
may_take_from-requires g c = record { one = c.self.invariant.0.one }

pub returns-in-Some : goal.returns-in-Some
returns-in-Some g c =
    c.may_take_from.ensures ∙ ap (may_take (control_of c.self.inside.lent.desk.past)) c.in-Some.ensures.some
    ∙ ap (λ (x : Control). may_take x c.args.slot) (sym (told_control g.P.Pipes.known (core_of c.self.inside.lent.desk c.self.inside.lent.pipes c.self.inside.tale.items c.self.inside.wanted) c.self.invariant.0 c.is_of_one_order.ensures))
    ∙ ap (λ (w : Core g.row.P.Denot (Given g.row.P-Name.Denot g.row.P-Out.Denot g.row.P-In.Denot) g.row.P-Name.Denot g.row.P-Story.Denot). may_take (control_told (pieces_in w)) c.args.slot) c.self.view_is

pub returns-in-None : goal.returns-in-None
returns-in-None g c =
    far_takes c.self.inside.lent.desk c.is_of_one_order.ensures c.self.invariant.0.one (let many = c.objects.ensures.many in let few = c.objects.ensures.few in omega (arith, many, few)) c.args.slot c.in-None.ensures.none
    ∙ ap (λ (x : Control). may_take x c.args.slot) (sym (told_control g.P.Pipes.known (core_of c.self.inside.lent.desk c.self.inside.lent.pipes c.self.inside.tale.items c.self.inside.wanted) c.self.invariant.0 c.is_of_one_order.ensures))
    ∙ ap (λ (w : Core g.row.P.Denot (Given g.row.P-Name.Denot g.row.P-Out.Denot g.row.P-In.Denot) g.row.P-Name.Denot g.row.P-Story.Denot). may_take (control_told (pieces_in w)) c.args.slot) c.self.view_is
