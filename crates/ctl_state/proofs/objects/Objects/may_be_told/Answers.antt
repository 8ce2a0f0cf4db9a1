use Rattle.std.specs.Prelude.{◌&&◌, not}
use Rattle.std.proofs.Common.{ap, ◌∙◌}
use Rattle.spec_control.specs.Row.{is_socket}
use Rattle.spec_control.specs.Stage.{is_alive}
use Rattle.own_tree.specs.declared.row.Row.{Row as TreeRow}
use Rattle.ctl_state.proofs.ObjectLemmas.{nobody_is_told}
use Rattle.ctl_state.proofs.KeptLemmas.{row_is, and_no, and_yes}
use Rattle.ctl_state.proofs.objects.Objects.may_be_told.Goals as goal

pub returns-in-None : goal.returns-in-None
returns-in-None c = nobody_is_told _ _ c.row.result c.args.id.0 c.self.view_is c.row.ensures c.in-None.is

pub returns-else-is_alive : goal.returns-else-is_alive
returns-else-is_alive c =
    and_no _ (not (is_socket c.in-Some.row.kind)) _ c.is_alive.ensures c.if-is_alive.false
    ∙ ap (λ (t : TreeRow). is_alive t.stage && not (is_socket t.kind)) (row_is _ _ c.row.result c.in-Some.row c.args.id.0 c.self.view_is c.row.ensures c.in-Some.is)

pub returns-then-is_alive : goal.returns-then-is_alive
returns-then-is_alive c =
    and_yes _ _ c.is_alive.result _ c.is_alive.ensures c.if-is_alive.true (ap not c.is_socket.ensures)
    ∙ ap (λ (t : TreeRow). is_alive t.stage && not (is_socket t.kind)) (row_is _ _ c.row.result c.in-Some.row c.args.id.0 c.self.view_is c.row.ensures c.in-Some.is)
