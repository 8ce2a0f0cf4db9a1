use Rattle.ctl_state.proofs.EndingLemmas.{no_state}
use Rattle.ctl_state.proofs.objects.Objects.root.Goals as goal

pub returns-in-None : goal.returns-in-None
returns-in-None c = no_state _ _ c.row.result 0 c.self.view_is c.row.ensures c.in-None.is
