use Rattle.spec_zmtp.proofs.MetadataLemmas.{decode_meta-encode_meta}
use Rattle.spec_zmtp.proofs.handshake_laws.metadata_is_its_properties.Goals as goal

pub returns : goal.returns
returns c = decode_meta-encode_meta
