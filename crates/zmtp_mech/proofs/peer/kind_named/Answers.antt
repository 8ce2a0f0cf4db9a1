use Rattle.zmtp_mech.proofs.PeerLemmas.{kind_read}
use Rattle.zmtp_mech.proofs.peer.kind_named.Goals as goal

pub returns : goal.returns
returns c = kind_read c.args.name.now c.read.result c.read.ensures.some c.read.ensures.none
