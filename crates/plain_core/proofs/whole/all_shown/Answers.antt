use Rattle.std.proofs.Common.{ap, ◌∙◌}
use Rattle.spec_run.specs.InTurns.{is_ended}
use Rattle.ctl_plane.specs.Past.{control_of}
use Rattle.plain_core.proofs.PieceLemmas.{shows_pieces}
use Rattle.plain_core.proofs.whole.all_shown.Goals as goal

pub returns : goal.returns
returns g c = λ pieces by_these.
    shows_pieces c.drops_go_on.ensures c.rows_are_counted.ensures (control_of c.args.desk.now.past) c.args.drops.now pieces by_these _
    c.in_ok-ended.ensures c.in_ok-pipes.ensures c.in_ok-objects.ensures (c.has_ended-done.ensures ∙ ap is_ended c.root.ensures)
