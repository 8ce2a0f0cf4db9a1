use Rattle.std.proofs.Common.{◌≡◌, take}
use Rattle.spec_zmtp.specs.Metadata.{encode_meta}
use Rattle.zmtp_meta.proofs.metadata.write_meta.Given as goal

abbrev pub invariant-properties : goal.invariant-properties
invariant-properties l = l.content.items ≡ encode_meta (take l.property-index l.list)
