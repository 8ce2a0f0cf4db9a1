use Rattle.ctl_state.proofs.ObjectLemmas.{no_slot}
use Rattle.ctl_state.proofs.objects.Objects.slot.Goals as goal

pub returns-in-None : goal.returns-in-None
returns-in-None c = no_slot _ _ c.row.result c.args.id.0 c.self.view_is c.row.ensures c.in-None.is
