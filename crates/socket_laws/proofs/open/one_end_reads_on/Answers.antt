use Rattle.socket_laws.proofs.ReadLemmas.{one_end_reads_on}
use Rattle.socket_laws.proofs.open.one_end_reads_on.Goals as goal

pub returns : goal.returns
returns c start = one_end_reads_on _ _
