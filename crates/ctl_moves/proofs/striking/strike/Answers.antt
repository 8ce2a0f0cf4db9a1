use Rattle.std.specs.Prelude.{List, Some, refl}
use Rattle.std.proofs.Common.{ap, sym, subst, ◌∙◌}
use Rattle.mailbox.specs.Mail.{Mail}
use Rattle.spec_control.specs.After.{strikes}
use Rattle.ctl_state.specs.declared.command.Command.{Command}
use Rattle.ctl_state.specs.declared.hold.Held.{Held}
use Rattle.ctl_state.specs.declared.state.State.{State}
use Rattle.ctl_state.specs.Boxes.{PutsBare}
use Rattle.ctl_state.specs.Lists.{hold_at}
use Rattle.ctl_state.specs.Stands.{Updates}
use Rattle.ctl_moves.proofs.NameLemmas.{same_lists}
use Rattle.ctl_moves.proofs.StrikeLemmas.{may_still}
use Rattle.ctl_moves.proofs.striking.strike.Goals as goal

pub returns-in-Bound-clause-stands : goal.returns-in-Bound-clause-stands
returns-in-Bound-clause-stands g c = λ at is.
    subst (λ (held : Held). Updates (strikes c.args.socket.0 c.args.to.now (Some (hold_at at held))) c.args.state.now c.tell_struck.new.state) (sym c.in-Bound.is)
    (λ k h. c.tell_struck.ensures.stands _ (c.free_name.ensures.stands k h))

pub returns-in-Bound-clause-only : goal.returns-in-Bound-clause-only
returns-in-Bound-clause-only g c =
    subst (λ (b : List (Mail (Command g.row.L.Denot))). PutsBare b c.tell_struck.new.state.boxes) (ap (λ (x : State g.row.L.Denot). x.boxes) c.free_name.ensures.rest) c.tell_struck.ensures.only.bare

pub returns-in-Bound-clause-ends : goal.returns-in-Bound-clause-ends
returns-in-Bound-clause-ends g c =
    same_lists c.args.state.now.objects.lists c.tell_struck.new.state.objects.lists
    (c.tell_struck.ensures.only.lists ∙ ap (λ (x : State g.row.L.Denot). x.objects.lists) c.free_name.ensures.rest)

pub tell_struck-requires : goal.tell_struck-requires
tell_struck-requires g c =
    let w = c.requires.may in
    record { may = may_still c.args.state.now c.free_name.new.self c.args.socket.0 w.control _ (ap (λ (x : State g.row.L.Denot). x.boxes) c.free_name.ensures.rest) refl (c.free_name.ensures.stands w.control w.stands) w.is }
