use Rattle.std.proofs.Common.{ap, ◌∙◌}
use Rattle.std.specs.BTreeMap.{insert_entry}
use Rattle.std.specs.Map.{lookup}
use Rattle.std.specs.Str.{bytes_eq}
use Rattle.spec_pattern.specs.Topics.{topic_cmp}
use Rattle.spec_pattern.specs.Wanted.{wants}
use Rattle.sub_table.specs.View.{entries_of}
use Rattle.sub_table.proofs.ViewLemmas.{insert_entry-entries_of}
use Rattle.sub_table.proofs.CountLemmas.{entries_in_order, nothing_found}
use Rattle.sub_table.proofs.LengthLemmas.{AreLengths-begun}
use Rattle.sub_table.proofs.wanted.Wanted.begin.Goals as goal

pub returns-in-Ok-clause-ok : goal.returns-in-Ok-clause-ok
returns-in-Ok-clause-ok c =
    ap entries_of c.in-Ok.ensures.entries
    ∙ insert_entry-entries_of c.in_ok-key.key 1 c.self.inside.counts.entries
    ∙ ap (λ t. insert_entry topic_cmp (entries_of c.self.inside.counts.entries) t 1) c.in_ok-key.ensures.items
    ∙ ap (λ w. insert_entry topic_cmp w c.args.topic.now 1) c.self.view_is

pub invariant_of-self-in-Ok : goal.invariant_of-self-in-Ok
invariant_of-self-in-Ok c = record {
  lengths =
      AreLengths-begun c.args.topic.now 1 (entries_of c.self.inside.counts.entries) (entries_of c.insert.new.self.entries) c.self.inside.lengths c.add.new.self
      (ap entries_of c.in-Ok.ensures.entries ∙ insert_entry-entries_of c.in_ok-key.key 1 c.self.inside.counts.entries
      ∙ ap (λ t. insert_entry topic_cmp (entries_of c.self.inside.counts.entries) t 1) c.in_ok-key.ensures.items)
      (nothing_found (lookup (bytes_eq c.args.topic.now) (entries_of c.self.inside.counts.entries)) (ap (λ w. wants w c.args.topic.now) c.self.view_is ∙ c.requires))
      c.self.invariant.lengths c.in_ok-add.ensures.ok;
  order = entries_in_order c.insert.new.self.entries c.in-Ok.ensures.ordered;
}
