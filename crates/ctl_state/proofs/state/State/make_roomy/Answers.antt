use Rattle.std.specs.Prelude.{length, refl}
use Rattle.std.proofs.Common.{ap, ◌∙◌}
use Rattle.ctl_state.specs.declared.state.State.{State}
use Rattle.ctl_state.specs.Objects.{ObjectRows, row_made, with_roomy}
use Rattle.ctl_state.specs.Parts.{on_objects}
use Rattle.ctl_state.proofs.MailLemmas.{cut_back}
use Rattle.ctl_state.proofs.MakingLemmas.{make_stands}
use Rattle.ctl_state.proofs.state.State.make_roomy.Goals as goal

pub returns-in-Ok-clause-number : goal.returns-in-Ok-clause-number
returns-in-Ok-clause-number g c = c.in-Ok.ensures.number ∙ ap (λ (x : State g.row.L.Denot). length x.objects.tree) c.in_ok-add_box.ensures.next

pub returns-in-Ok-clause-ok : goal.returns-in-Ok-clause-ok
returns-in-Ok-clause-ok g c = λ k h. make_stands _ _ c.args.ends (row_made c.args.owner c.args.made) c.in-Ok.ensures.row refl refl refl refl k (c.in_ok-add_box.ensures.ok k h)

pub returns-in-Ok-clause-next : goal.returns-in-Ok-clause-next
returns-in-Ok-clause-next g c =
    ap (λ (o : ObjectRows). on_objects (λ _. o) c.add_box.new.self) c.in-Ok.ensures.ok
    ∙ ap (on_objects (with_roomy c.args.ends c.args.owner c.args.made)) c.in_ok-add_box.ensures.next

pub returns-in-Err-clause-err : goal.returns-in-Err-clause-err
returns-in-Err-clause-err g c =
    cut_back c.args.self.now c.add_box.new.self (on_objects (λ _. c.make.new.self) c.add_box.new.self) c.truncate.new.self _ _ c.in_ok-add_box.ensures.next
    (ap (λ (o : ObjectRows). on_objects (λ _. o) c.add_box.new.self) c.in-Err.ensures.err) c.len-many.ensures c.truncate.ensures
