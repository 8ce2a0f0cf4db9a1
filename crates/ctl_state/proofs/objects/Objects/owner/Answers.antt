use Rattle.ctl_state.proofs.EndingLemmas.{no_owner}
use Rattle.ctl_state.proofs.objects.Objects.owner.Goals as goal

pub returns-in-None : goal.returns-in-None
returns-in-None c = no_owner _ _ c.row.result c.args.id.0 c.self.view_is c.row.ensures c.in-None.is
