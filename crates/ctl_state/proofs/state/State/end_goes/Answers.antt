use Rattle.std.specs.Prelude.{refl}
use Rattle.std.proofs.Common.{ap, sym, ◌∙◌}
use Rattle.zq_base.specs.declared.ids.ObjId.{ObjId}
use Rattle.spec_control.specs.declared.end.EndEvent.TheVariants.{AckCame}
use Rattle.spec_control.specs.Control.{commands_in}
use Rattle.own_tree.specs.Changes.{change, without_end}
use Rattle.ctl_state.specs.Objects.{with_tree}
use Rattle.ctl_state.specs.Pairs.{spot_at}
use Rattle.ctl_state.proofs.PairLemmas.{stepped_commands}
use Rattle.ctl_state.proofs.EndLemmas.{place_stands, end_goes_stands}
use Rattle.ctl_state.proofs.state.State.end_goes.Goals as goal
use Rattle.ctl_state.proofs.StandLemmas.{parts_are}

pub returns-clause-stands : goal.returns-clause-stands
returns-clause-stands g c = λ k h. end_goes_stands c.args.self.now c.args.e k h _ c.requires.may c.requires.unended c.requires.attached c.happens.ensures.next
    (c.end_goes.ensures ∙ ap (λ (o : ObjId). with_tree (change without_end o c.args.self.now.objects.tree) c.args.self.now.objects) c.owner-owner.ensures) refl refl refl

pub returns-clause-commands : goal.returns-clause-commands
returns-clause-commands g c = λ k h. c.happens.ensures.commands ∙ stepped_commands AckCame (spot_at c.args.self.now.pairs c.args.e)
    ∙ sym (ap (commands_in AckCame) (place_stands c.args.self.now c.args.e k h))

pub returns-clause-next : goal.returns-clause-next
returns-clause-next g c = parts_are c.args.self.now _ _ _ _
    (c.end_goes.ensures ∙ ap (λ (o : ObjId). with_tree (change without_end o c.args.self.now.objects.tree) c.args.self.now.objects) c.owner-owner.ensures) c.happens.ensures.next
