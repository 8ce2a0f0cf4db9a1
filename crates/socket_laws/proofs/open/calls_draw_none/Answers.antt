use Rattle.socket_laws.proofs.JoinLemmas.{calls_draw_none}
use Rattle.socket_laws.proofs.open.calls_draw_none.Goals as goal

pub returns : goal.returns
returns c = calls_draw_none
