use Rattle.std.proofs.Common.{◌∙◌, ap, sym, subst}
use Rattle.std.specs.Map.{keys_of}
use Rattle.sub_table.specs.Lengths.{number_of, so_long}
use Rattle.sub_table.specs.View.{entries_of}
use Rattle.spec_pattern.specs.Topics.{AreInOrder}
use Rattle.sub_table.proofs.ViewLemmas.{none_in_order}
use Rattle.sub_table.proofs.wanted.Wanted.new.Goals as goal

pub invariant_of-result : goal.invariant_of-result
invariant_of-result c = record {
  lengths = λ n. ap (λ counts. number_of counts n) c.new-2.ensures ∙ sym (ap (λ es. so_long n (keys_of (entries_of es))) c.new.ensures.empty);
  order = subst (λ es. AreInOrder (keys_of (entries_of es))) (sym c.new.ensures.empty) none_in_order;
}
