use Rattle.std.proofs.Common.{ap, ◌∙◌, None, cond}
use Rattle.std.specs.Map.{lookup}
use Rattle.std.specs.Option.{is_some}
use Rattle.std.specs.Str.{bytes_eq}
use Rattle.sub_table.specs.View.{entries_of}
use Rattle.sub_table.proofs.ViewLemmas.{remove_entry-entries_of}
use Rattle.sub_table.proofs.LengthLemmas.{AreLengths-ended}
use Rattle.sub_table.proofs.HoldLemmas.{lookup-updated, Loses-emptied}
use Rattle.sub_table.proofs.holders.Holders.remove.Goals as goal

pub returns-then-leaves_none : goal.returns-then-leaves_none
returns-then-leaves_none c =
    Loses-emptied c.args.topic.now c.args.peer c.args.self.now c.leaves_none.new.self (entries_of c.remove.new.self.entries) c.leaves_none.ensures.loses
    ((c.leaves_none.ensures.none c.if-leaves_none.true).0)
    (λ t. lookup-updated c.args.topic.now t c.self.inside.by_topic c.remove.new.self None c.remove.ensures.updates
    ∙ ap (λ held. cond (bytes_eq c.args.topic.now t) None (lookup (bytes_eq t) held)) c.self.view_is)

pub invariant_of-self : goal.invariant_of-self
invariant_of-self c =
    AreLengths-ended c.args.topic.now (entries_of c.self.inside.by_topic.entries) (entries_of c.remove.new.self.entries) c.self.inside.lengths c.remove-then-leaves_none.new.self
    (ap entries_of c.remove.ensures.entries ∙ remove_entry-entries_of c.args.topic.now c.self.inside.by_topic.entries)
    (ap (λ held. is_some (lookup (bytes_eq c.args.topic.now) held)) c.self.view_is ∙ (c.leaves_none.ensures.none c.if-leaves_none.true).1)
    c.self.invariant c.remove-then-leaves_none.ensures
