use Rattle.std.proofs.Common.{◌∙◌, ap}
use Rattle.spec_zmtp.specs.PeerMetadata.{kind_named}
use Rattle.zmtp_mech.proofs.PeerLemmas.{kind_read}
use Rattle.zq_call.proofs.read.kind_of_name.Goals as goal

pub returns : goal.returns
returns c = kind_read _ _ c.read.ensures.some c.read.ensures.none ∙ ap kind_named c.as_bytes.ensures.value
