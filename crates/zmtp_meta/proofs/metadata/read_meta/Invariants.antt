use Rattle.std.proofs.Common.{◌≡◌, length}
use Rattle.spec_zmtp.specs.Metadata.{IsOctets}
use Rattle.spec_zmtp.specs.Decoding.{decode_meta}
use Rattle.spec_zmtp.proofs.MetadataLemmas.{with_front}
use Rattle.zmtp_meta.proofs.metadata.read_meta.Given as goal

abbrev pub invariant-properties : goal.invariant-properties
invariant-properties l = record {
  decoded : decode_meta l.content ≡ with_front l.found.items (decode_meta l.rest);
  all : IsOctets l.content;
  octets : IsOctets l.rest;
}

abbrev pub decreases-properties : goal.decreases-properties
decreases-properties l = length l.rest
