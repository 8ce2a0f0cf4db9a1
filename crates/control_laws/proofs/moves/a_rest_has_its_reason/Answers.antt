use Rattle.control_laws.proofs.FateLemmas.{rest_only_where_asked}
use Rattle.control_laws.proofs.moves.a_rest_has_its_reason.Goals as goal

pub returns : goal.returns
returns c start = rest_only_where_asked _ _
