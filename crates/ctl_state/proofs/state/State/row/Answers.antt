use Rattle.ctl_state.proofs.KeptLemmas.{row_shown, row_missing}
use Rattle.ctl_state.proofs.state.State.row.Goals as goal

pub returns-clause-some : goal.returns-clause-some
returns-clause-some g c = row_shown c.args.self.now c.args.id.0 c.row.result c.row.ensures

pub returns-clause-none : goal.returns-clause-none
returns-clause-none g c = row_missing c.args.self.now c.args.id.0 c.row.result c.row.ensures
