use Rattle.std.proofs.Common.{◌≡◌, ℕ, ◌++◌, ◌∷◌, [], List, Some, eqb-true, ap, sym, subst, ◌∙◌}
use Rattle.std.proofs.lemmas.List.{nil_from_length}
use Rattle.spec_zmtp.specs.declared.command.Property.{Property}
use Rattle.spec_zmtp.specs.Metadata.{property}
use Rattle.spec_zmtp.specs.Decoding.{decode_meta}
use Rattle.spec_zmtp.proofs.MetadataLemmas.{with_front, no_properties, encode_meta-decode_meta, not_zero}
use Rattle.zmtp_meta.proofs.ReadingLemmas.{none_behind, all_read, one_read, Read1}
use Rattle.zmtp_meta.proofs.metadata.read_meta.Goals as goal

pub returns-in_default-clause-none : goal.returns-in_default-clause-none
returns-in_default-clause-none c = λ e.
    none_behind c.args.content.now c.properties.rest.now c.properties.found.items c.properties.invariant.decoded (not_zero _ (sym c.properties-test.ensures)) c.in_default.ensures

pub returns-in_default-clause-bad : goal.returns-in_default-clause-bad
returns-in_default-clause-bad c = λ e.
    no_properties c.args.content.now (none_behind c.args.content.now c.properties.rest.now c.properties.found.items c.properties.invariant.decoded (not_zero _ (sym c.properties-test.ensures)) c.in_default.ensures)

pub properties-smaller : goal.properties-smaller
properties-smaller c =
    let p : Property = property c.in-Some.name.now c.in-Some.value.now in
    (one_read c.args.content.now c.properties.rest.now c.in-Some.after.now c.properties.found.items p c.properties.invariant.decoded c.properties.invariant.octets c.in-Some.ensures).less

pub properties-preserved : goal.properties-preserved
properties-preserved c =
    let p : Property = property c.in-Some.name.now c.in-Some.value.now in
    let r : Read1 c.args.content.now c.properties.rest.now c.in-Some.after.now c.properties.found.items p =
    one_read c.args.content.now c.properties.rest.now c.in-Some.after.now c.properties.found.items p c.properties.invariant.decoded c.properties.invariant.octets c.in-Some.ensures in
    let kept : c.push.new.self.items ≡ c.properties.found.items ++ p ∷ [] =
    c.in_ok-push.ensures.items ∙ ap (λ (l : List ℕ). c.properties.found.items ++ property l c.in_ok-value.value ∷ []) c.in_ok-name.ensures
    ∙ ap (λ (l : List ℕ). c.properties.found.items ++ property c.in-Some.name.now l ∷ []) c.in_ok-value.ensures in
    record {
      decoded = subst (λ (l : List Property). decode_meta c.args.content.now ≡ with_front l (decode_meta c.in-Some.after.now)) (sym kept) r.decoded;
      all = c.properties.invariant.all;
      octets = r.octets;
    }

-- nothing is left, so all was read
read : (c : goal.After-properties) → decode_meta c.args.content.now ≡ Some c.properties.found.items
read c = all_read c.args.content.now c.properties.rest.now c.properties.found.items c.properties.invariant.decoded (nil_from_length _ (eqb-true _ _ (sym c.properties-test.ensures)))

pub returns-clause-some : goal.returns-clause-some
returns-clause-some c = read c

pub returns-clause-ok : goal.returns-clause-ok
returns-clause-ok c = (encode_meta-decode_meta c.properties.found.items c.args.content.now c.properties.invariant.all (read c)).1

pub returns-clause-properties : goal.returns-clause-properties
returns-clause-properties c = (encode_meta-decode_meta c.properties.found.items c.args.content.now c.properties.invariant.all (read c)).0
