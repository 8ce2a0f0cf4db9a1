use Rattle.std.proofs.Common.{◌≡◌, length}
use Rattle.std.specs.Prelude.{is_some}
use Rattle.spec_zmtp.specs.Metadata.{IsOctets}
use Rattle.spec_zmtp.specs.Decoding.{decode_meta}
use Rattle.zmtp_meta.proofs.metadata.is_meta.Given as goal

abbrev pub invariant-properties : goal.invariant-properties
invariant-properties l = record {
  told : is_some (decode_meta l.content) ≡ is_some (decode_meta l.rest);
  all : IsOctets l.content;
  octets : IsOctets l.rest;
}

abbrev pub decreases-properties : goal.decreases-properties
decreases-properties l = length l.rest
