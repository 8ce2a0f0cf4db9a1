use Rattle.std.proofs.Common.{ap, sym, subst, ◌||◌, ◌∙◌, Some, [], nat_eq}
use Rattle.std.specs.BTreeMap.{UpdatesBy, insert_entry}
use Rattle.std.specs.Cmp.Lexicographic.{slice_cmp}
use Rattle.std.specs.Map.{lookup}
use Rattle.std.specs.Option.{unwrap_or}
use Rattle.std.specs.Ordering.{nat_cmp}
use Rattle.std.specs.Str.{bytes_eq}
use Rattle.spec_pattern.specs.Topics.{topic_cmp}
use Rattle.sub_table.specs.View.{Gains, entries_of, is_peer, holders_of}
use Rattle.sub_table.proofs.ViewLemmas.{key_cmp, insert_entry-entries_of}
use Rattle.sub_table.proofs.HoldLemmas.{lookup-updated, Gains-set}
use Rattle.sub_table.proofs.LengthLemmas.{AreLengths-begun}
use Rattle.sub_table.proofs.holders.Holders.begin.Goals as goal

pub returns-in-Ok-clause-ok : goal.returns-in-Ok-clause-ok
returns-in-Ok-clause-ok c =
    subst (λ held. Gains c.args.topic.now c.args.peer held (entries_of c.insert.new.self.entries)) c.self.view_is
    (Gains-set c.args.topic.now c.args.peer c.add.new.self (entries_of c.self.inside.by_topic.entries) (entries_of c.insert.new.self.entries)
    (λ t. lookup-updated c.args.topic.now t c.self.inside.by_topic c.insert.new.self (Some c.add.new.self)
    (subst (λ key. UpdatesBy key_cmp (λ k. slice_cmp nat_cmp key k.items) c.self.inside.by_topic c.insert.new.self (Some c.add.new.self)) c.in_ok-key.ensures.items c.in-Ok.ensures.updates))
    (λ q. c.in_ok-add.ensures.ok q ∙ ap (λ peers. nat_eq c.args.peer q || is_peer peers q)
    (c.new-peers.ensures ∙ sym (ap (λ o. unwrap_or o []) c.requires) ∙ ap (λ held. holders_of held c.args.topic.now) (sym c.self.view_is))))

pub invariant_of-self-in-Ok : goal.invariant_of-self-in-Ok
invariant_of-self-in-Ok c =
    AreLengths-begun c.args.topic.now c.add.new.self (entries_of c.self.inside.by_topic.entries) (entries_of c.insert.new.self.entries) c.self.inside.lengths c.add-2.new.self
    (ap entries_of c.in-Ok.ensures.entries ∙ insert_entry-entries_of c.in_ok-key.key c.add.new.self c.self.inside.by_topic.entries
    ∙ ap (λ t. insert_entry topic_cmp (entries_of c.self.inside.by_topic.entries) t c.add.new.self) c.in_ok-key.ensures.items)
    (ap (lookup (bytes_eq c.args.topic.now)) c.self.view_is ∙ c.requires) c.self.invariant c.in_ok-add-2.ensures.ok
