use Rattle.std.proofs.Common.{ap, ◌∙◌}
use Rattle.std.specs.Map.{remove_entry}
use Rattle.std.specs.Str.{bytes_eq}
use Rattle.spec_pattern.specs.Wanted.{wants}
use Rattle.sub_table.specs.View.{entries_of}
use Rattle.sub_table.proofs.ViewLemmas.{remove_entry-entries_of}
use Rattle.sub_table.proofs.CountLemmas.{entries_in_order}
use Rattle.sub_table.proofs.LengthLemmas.{AreLengths-ended}
use Rattle.sub_table.proofs.wanted.Wanted.end.Goals as goal

pub returns : goal.returns
returns c =
    ap entries_of c.remove.ensures.entries
    ∙ remove_entry-entries_of c.args.topic.now c.self.inside.counts.entries
    ∙ ap (remove_entry (bytes_eq c.args.topic.now)) c.self.view_is

pub invariant_of-self : goal.invariant_of-self
invariant_of-self c = record {
  lengths =
      AreLengths-ended c.args.topic.now (entries_of c.self.inside.counts.entries) (entries_of c.remove.new.self.entries) c.self.inside.lengths c.remove-2.new.self
      (ap entries_of c.remove.ensures.entries ∙ remove_entry-entries_of c.args.topic.now c.self.inside.counts.entries)
      (ap (λ w. wants w c.args.topic.now) c.self.view_is ∙ c.requires) c.self.invariant.lengths c.remove-2.ensures;
  order = entries_in_order c.remove.new.self.entries c.remove.ensures.ordered;
}
