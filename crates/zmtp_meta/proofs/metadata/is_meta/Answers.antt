use Rattle.std.proofs.Common.{◌≡◌, true, false, eqb-true, refl, sym}
use Rattle.std.specs.Prelude.{is_some}
use Rattle.std.proofs.lemmas.List.{nil_from_length}
use Rattle.spec_zmtp.specs.Metadata.{property}
use Rattle.spec_zmtp.specs.Decoding.{decode_meta}
use Rattle.spec_zmtp.proofs.MetadataLemmas.{not_zero}
use Rattle.zmtp_meta.proofs.ReadingLemmas.{one_passed, none_left, all_passed, told_as}
use Rattle.zmtp_meta.proofs.metadata.is_meta.Goals as goal

pub returns-in_default-clause-value : goal.returns-in_default-clause-value
returns-in_default-clause-value c = none_left c.args.content.now c.properties.rest.now c.properties.invariant.told (not_zero _ (sym c.properties-test.ensures)) c.in_default.ensures

pub returns-in_default-clause-good : goal.returns-in_default-clause-good
returns-in_default-clause-good c =
    told_as c.args.content.now (decode_meta c.args.content.now) false c.properties.invariant.all refl
    (none_left c.args.content.now c.properties.rest.now c.properties.invariant.told (not_zero _ (sym c.properties-test.ensures)) c.in_default.ensures)

pub properties-smaller : goal.properties-smaller
properties-smaller c =
    (one_passed c.args.content.now c.properties.rest.now c.in-Some.property.2.now (property c.in-Some.property.0.now c.in-Some.property.1.now) c.properties.invariant.told c.properties.invariant.octets c.in-Some.ensures).less

pub properties-preserved : goal.properties-preserved
properties-preserved c =
    let r = one_passed c.args.content.now c.properties.rest.now c.in-Some.property.2.now (property c.in-Some.property.0.now c.in-Some.property.1.now) c.properties.invariant.told c.properties.invariant.octets c.in-Some.ensures in
    record { told = r.told; all = c.properties.invariant.all; octets = r.octets }

-- nothing is left, so all was passed
passed : (c : goal.After-properties) → true ≡ is_some (decode_meta c.args.content.now)
passed c = all_passed c.args.content.now c.properties.rest.now c.properties.invariant.told (nil_from_length _ (eqb-true _ _ (sym c.properties-test.ensures)))

pub returns-clause-value : goal.returns-clause-value
returns-clause-value c = passed c

pub returns-clause-good : goal.returns-clause-good
returns-clause-good c = told_as c.args.content.now (decode_meta c.args.content.now) true c.properties.invariant.all refl (passed c)
