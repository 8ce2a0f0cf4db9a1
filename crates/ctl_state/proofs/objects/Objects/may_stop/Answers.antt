use Rattle.std.specs.Prelude.{◌&&◌}
use Rattle.std.proofs.Common.{◌∙◌}
use Rattle.spec_control.specs.Row.{is_socket}
use Rattle.spec_control.specs.Stage.{is_alive, is_unused}
use Rattle.ctl_state.proofs.ObjectLemmas.{nobody_may_stop}
use Rattle.ctl_state.proofs.KeptLemmas.{row_there, may_stop_is, and_no, and_yes}
use Rattle.ctl_state.proofs.objects.Objects.may_stop.Goals as goal

pub returns-in-None : goal.returns-in-None
returns-in-None c = nobody_may_stop _ _ c.row.result c.args.id.0 c.self.view_is c.row.ensures c.in-None.is

pub index-requires : goal.index-requires
index-requires c = row_there c.self.inside.tree c.row.result c.in-Some.row c.args.id.0 _ (c.self.inside.details.ok.0 ∙ c.self.invariant.0) c.row.ensures c.in-Some.is

pub returns-else-is_unused : goal.returns-else-is_unused
returns-else-is_unused c =
    and_no _ (is_unused c.in-Some.row.request && (is_socket c.in-Some.row.kind && is_alive c.in-Some.row.stage)) _ c.is_unused.ensures c.if-is_unused.false
    ∙ may_stop_is _ _ c.row.result c.in-Some.row c.index.result.now c.args.id.0 c.self.view_is c.row.ensures c.in-Some.is c.self.invariant.0 c.index.ensures

pub returns-else-is_unused-2 : goal.returns-else-is_unused-2
returns-else-is_unused-2 c =
    and_yes _ _ c.is_unused.result _ c.is_unused.ensures c.if-is_unused.true
    (and_no _ (is_socket c.in-Some.row.kind && is_alive c.in-Some.row.stage) _ c.is_unused-then-is_unused.ensures c.if-is_unused-2.false)
    ∙ may_stop_is _ _ c.row.result c.in-Some.row c.index.result.now c.args.id.0 c.self.view_is c.row.ensures c.in-Some.is c.self.invariant.0 c.index.ensures

pub returns-else-is_socket : goal.returns-else-is_socket
returns-else-is_socket c =
    and_yes _ _ c.is_unused.result _ c.is_unused.ensures c.if-is_unused.true
    (and_yes _ _ c.is_unused-then-is_unused.result _ c.is_unused-then-is_unused.ensures c.if-is_unused-2.true
    (and_no _ (is_alive c.in-Some.row.stage) _ c.is_socket.ensures c.if-is_socket.false))
    ∙ may_stop_is _ _ c.row.result c.in-Some.row c.index.result.now c.args.id.0 c.self.view_is c.row.ensures c.in-Some.is c.self.invariant.0 c.index.ensures

pub returns-then-is_socket : goal.returns-then-is_socket
returns-then-is_socket c =
    and_yes _ _ c.is_unused.result _ c.is_unused.ensures c.if-is_unused.true
    (and_yes _ _ c.is_unused-then-is_unused.result _ c.is_unused-then-is_unused.ensures c.if-is_unused-2.true
    (and_yes _ _ c.is_socket.result _ c.is_socket.ensures c.if-is_socket.true c.is_alive.ensures))
    ∙ may_stop_is _ _ c.row.result c.in-Some.row c.index.result.now c.args.id.0 c.self.view_is c.row.ensures c.in-Some.is c.self.invariant.0 c.index.ensures
