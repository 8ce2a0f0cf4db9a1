use Rattle.std.proofs.Common.{ap, sym, subst, ◌∙◌}
use Rattle.std.proofs.lemmas.Map.{keys-set_value}
use Rattle.std.specs.Map.{keys_of, set_value}
use Rattle.spec_pattern.specs.Topics.{AreInOrder}
use Rattle.std.specs.Str.{bytes_eq}
use Rattle.sub_table.specs.View.{entries_of}
use Rattle.sub_table.proofs.ViewLemmas.{at_key, set_value-absent, set_value-entries_of}
use Rattle.sub_table.proofs.LengthLemmas.{AreLengths-set}
use Rattle.sub_table.proofs.wanted.Wanted.set.Goals as goal

pub returns-in-Some : goal.returns-in-Some
returns-in-Some c =
    ap entries_of (c.get_mut.follows.holds c.args.count).0
    ∙ set_value-entries_of c.args.topic.now c.self.inside.counts.entries c.args.count
    ∙ ap (λ wanted. set_value (bytes_eq c.args.topic.now) wanted c.args.count) c.self.view_is

pub invariant_of-self : goal.invariant_of-self
invariant_of-self c =
    let is = ap entries_of (c.get_mut.follows.holds c.args.count).0 ∙ set_value-entries_of c.args.topic.now c.self.inside.counts.entries c.args.count in
    record {
      lengths = AreLengths-set (bytes_eq c.args.topic.now) c.args.count (entries_of c.self.inside.counts.entries) _ c.self.inside.lengths is c.self.invariant.lengths;
      order = subst AreInOrder (sym (ap keys_of is ∙ keys-set_value (bytes_eq c.args.topic.now) (entries_of c.self.inside.counts.entries) c.args.count)) c.self.invariant.order;
    }

pub returns-in-None : goal.returns-in-None
returns-in-None c =
    ap (λ counts. entries_of counts.entries) c.get_mut.follows.holds-at-none
    ∙ ap entries_of (sym (set_value-absent (at_key c.args.topic.now) c.self.inside.counts.entries c.args.count c.in-None.ensures.value))
    ∙ set_value-entries_of c.args.topic.now c.self.inside.counts.entries c.args.count
    ∙ ap (λ wanted. set_value (bytes_eq c.args.topic.now) wanted c.args.count) c.self.view_is
