use Rattle.std.specs.Prelude.{◌++◌, ◌∷◌, []}
use Rattle.std.proofs.Common.{ap, subst, ◌∙◌}
use Rattle.mailbox.specs.Mail.{no_mail}
use Rattle.spec_control.specs.declared.book.Binding.{Binding}
use Rattle.spec_control.specs.EndpointBook.{Book, without_name}
use Rattle.spec_control.specs.Register.{with_holder}
use Rattle.spec_control.specs.Control.{makes}
use Rattle.ctl_state.specs.declared.state.State.{State}
use Rattle.ctl_state.specs.Lists.{no_belongings}
use Rattle.ctl_state.specs.Objects.{row_made}
use Rattle.ctl_state.specs.Parts.{on_book}
use Rattle.ctl_state.specs.Stands.{Stands, names_by}
use Rattle.ctl_state.proofs.RegisterLemmas.{name_back}
use Rattle.ctl_moves.proofs.listening.name_listener.Goals as goal

pub returns-in-Ok-make-clause-ok : goal.returns-in-Ok-make-clause-ok
returns-in-Ok-make-clause-ok g c = record {
  stands = λ k h. subst (λ (b : Binding). Stands c.make.new.self (makes (row_made c.args.socket c.args.made) (names_by (with_holder c.args.at.now b) k))) (c.binding_by-binding.ensures k h)
      (c.in-Ok-make.ensures.ok _ (c.in-Ok.ensures.ok k h));
  boxes = ap (λ (x : State g.row.L.Denot). x.boxes) c.in-Ok-make.ensures.next ∙ ap (λ (x : State g.row.L.Denot). x.boxes ++ no_mail ∷ []) c.in-Ok.ensures.rest;
  lists = ap (λ (x : State g.row.L.Denot). x.objects.lists) c.in-Ok-make.ensures.next ∙ ap (λ (x : State g.row.L.Denot). x.objects.lists ++ no_belongings ∷ []) c.in-Ok.ensures.rest;
}

pub returns-in-Err-clause-err : goal.returns-in-Err-clause-err
returns-in-Err-clause-err g c =
    let free = c.requires.free in
    c.free_from.ensures.next ∙ ap (on_book (without_name c.args.at.now)) (c.in-Err.ensures.err ∙ c.in-Ok.ensures.next)
    ∙ ap (λ (b : Book). on_book (λ _. b) c.args.state.now)
    (name_back c.args.state.now.book c.args.at.now c.binding_by-binding.result (free.stands.names.same_holders c.args.at.now ∙ free.is))
