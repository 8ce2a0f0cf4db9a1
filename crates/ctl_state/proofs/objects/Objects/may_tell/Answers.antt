use Rattle.std.specs.Prelude.{◌&&◌, not, refl}
use Rattle.std.proofs.Common.{ap, ◌∙◌}
use Rattle.spec_control.specs.Row.{is_socket}
use Rattle.spec_control.specs.Stage.{is_alive}
use Rattle.own_tree.specs.declared.row.Row.{Row as TreeRow}
use Rattle.ctl_state.proofs.ObjectLemmas.{nobody_may_tell}
use Rattle.ctl_state.proofs.KeptLemmas.{row_is, and_no, and_yes}
use Rattle.ctl_state.proofs.objects.Objects.may_tell.Goals as goal

pub returns-in-None : goal.returns-in-None
returns-in-None c = nobody_may_tell _ _ c.row.result c.args.id.0 c.self.view_is c.row.ensures c.in-None.is

pub returns-else-row : goal.returns-else-row
returns-else-row c =
    and_no c.in-Some.row.noted (is_alive c.in-Some.row.stage && not (is_socket c.in-Some.row.kind)) c.in-Some.row.noted refl c.if-row.false
    ∙ ap (λ (t : TreeRow). t.noted && (is_alive t.stage && not (is_socket t.kind))) (row_is _ _ c.row.result c.in-Some.row c.args.id.0 c.self.view_is c.row.ensures c.in-Some.is)

pub returns-then-row : goal.returns-then-row
returns-then-row c =
    and_yes _ _ c.in-Some.row.noted _ (ap (λ (t : TreeRow). t.noted) (row_is _ _ c.row.result c.in-Some.row c.args.id.0 c.self.view_is c.row.ensures c.in-Some.is)) c.if-row.true c.may_be_told.ensures
