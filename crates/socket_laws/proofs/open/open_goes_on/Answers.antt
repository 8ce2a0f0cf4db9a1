use Rattle.socket_laws.proofs.BehindLemmas.{open_goes_on}
use Rattle.socket_laws.proofs.open.open_goes_on.Goals as goal

pub returns : goal.returns
returns c start = open_goes_on _ _
