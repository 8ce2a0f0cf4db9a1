use Rattle.std.specs.Prelude.{◌++◌, ◌∷◌, [], length}
use Rattle.std.proofs.Common.{ap, sym, subst, ◌∙◌}
use Rattle.mailbox.specs.Mail.{no_mail, with_spare}
use Rattle.ctl_state.specs.declared.state.State.{State}
use Rattle.ctl_state.specs.Objects.{TakesChild}
use Rattle.ctl_state.specs.Lists.{no_belongings}
use Rattle.ctl_state.proofs.KeptLemmas.{so_on_err}
use Rattle.ctl_state.proofs.MailLemmas.{boxes_back}
use Rattle.ctl_moves.proofs.making.make.Goals as goal

pub reserve-requires : goal.reserve-requires
reserve-requires g c = record {
  there = c.requires.takes.some;
}

pub make-requires-clause-takes : goal.make-requires-clause-takes
make-requires-clause-takes g c =
    subst (λ (x : State g.row.L.Denot). TakesChild x.objects (record { 0 = 0 })) (sym c.in_ok-reserve.ensures.next) c.requires.takes.takes

pub returns-in-Ok-clause-number : goal.returns-in-Ok-clause-number
returns-in-Ok-clause-number g c = c.in-Ok.ensures.number ∙ ap (λ (x : State g.row.L.Denot). length x.objects.tree) c.in_ok-reserve.ensures.next

pub returns-in-Ok-clause-ok : goal.returns-in-Ok-clause-ok
returns-in-Ok-clause-ok g c = record {
  stands = λ b h. c.in-Ok.ensures.ok b (c.in_ok-reserve.ensures.ok b h);
  lists = ap (λ (x : State g.row.L.Denot). x.objects.lists) c.in-Ok.ensures.next ∙ ap (λ (x : State g.row.L.Denot). x.objects.lists ++ no_belongings ∷ []) c.in_ok-reserve.ensures.next;
  boxes = ap (λ (x : State g.row.L.Denot). x.boxes) c.in-Ok.ensures.next ∙ ap (λ (x : State g.row.L.Denot). x.boxes ++ with_spare 2 no_mail ∷ []) c.in_ok-reserve.ensures.next;
}

pub returns-in-Err-clause-err : goal.returns-in-Err-clause-err
returns-in-Err-clause-err g c =
    boxes_back c.args.state.now c.reserve.new.self c.make.new.self c.release.new.self 0 2 c.requires.takes.some c.in_ok-reserve.ensures.next c.in-Err.ensures.err c.release.ensures

pub returns-in_err-reserve-clause-err : goal.returns-in_err-reserve-clause-err
returns-in_err-reserve-clause-err g c = so_on_err _ c.from_residual.result c.in_err-reserve.ensures.err
