use Rattle.spec_zmtp.proofs.MetadataLemmas.{encode_meta-decode_meta}
use Rattle.spec_zmtp.proofs.handshake_laws.decoded_properties_have_the_octets.Goals as goal

pub returns : goal.returns
returns c = λ content ps. encode_meta-decode_meta ps content
