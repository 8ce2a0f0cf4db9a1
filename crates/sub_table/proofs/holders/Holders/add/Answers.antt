use Rattle.std.proofs.Common.{ap, sym, subst, ◌||◌, ◌∙◌, Some, nat_eq}
use Rattle.std.specs.Map.{lookup}
use Rattle.std.specs.Option.{is_some}
use Rattle.std.specs.Str.{bytes_eq}
use Rattle.sub_table.specs.View.{Gains, entries_of, is_peer, holds}
use Rattle.sub_table.proofs.ViewLemmas.{lookup-entries_of, set_value-entries_of}
use Rattle.sub_table.proofs.LengthLemmas.{AreLengths-set}
use Rattle.sub_table.proofs.HoldLemmas.{lookup-updated, holders_of-found, Gains-set, holds-kept}
use Rattle.sub_table.proofs.holders.Holders.add.Goals as goal

pub begin-requires : goal.begin-requires
begin-requires c =
    ap (λ m. lookup (bytes_eq c.args.topic.now) (entries_of m.entries)) c.get_mut.follows.holds-at-none
    ∙ sym (c.in-None.ensures.value ∙ lookup-entries_of c.args.topic.now c.self.inside.by_topic.entries)

pub invariant_of-self : goal.invariant_of-self
invariant_of-self c =
    AreLengths-set (bytes_eq c.args.topic.now) c.add.new.self (entries_of c.self.inside.by_topic.entries) _ c.self.inside.lengths
    (ap entries_of (c.get_mut.follows.holds c.add.new.self).0 ∙ set_value-entries_of c.args.topic.now c.self.inside.by_topic.entries c.add.new.self) c.self.invariant

pub invariant_of-self-in-Err : goal.invariant_of-self-in-Err
invariant_of-self-in-Err c =
    AreLengths-set (bytes_eq c.args.topic.now) c.add.new.self (entries_of c.self.inside.by_topic.entries) _ c.self.inside.lengths
    (ap entries_of (c.get_mut.follows.holds c.add.new.self).0 ∙ set_value-entries_of c.args.topic.now c.self.inside.by_topic.entries c.add.new.self) c.self.invariant

pub returns-in-Ok-clause-ok : goal.returns-in-Ok-clause-ok
returns-in-Ok-clause-ok c =
    let new = (c.get_mut.follows.lender c.add.new.self).entries in
    subst (λ held. Gains c.args.topic.now c.args.peer held (entries_of new)) c.self.view_is
    (Gains-set c.args.topic.now c.args.peer c.add.new.self (entries_of c.self.inside.by_topic.entries) (entries_of new)
    (λ t. lookup-updated c.args.topic.now t c.self.inside.by_topic (c.get_mut.follows.lender c.add.new.self) (Some c.add.new.self)
    ((c.get_mut.follows.holds c.add.new.self).3 (ap is_some (sym c.in-Some.ensures.value))))
    (λ q. c.in-Ok.ensures.ok q
    ∙ ap (λ peers. nat_eq c.args.peer q || is_peer peers q) (sym (holders_of-found c.args.topic.now c.self.inside.by_topic (Some c.in-Some.peers.now) c.in-Some.ensures.value))))

pub returns-in-Err-clause-err : goal.returns-in-Err-clause-err
returns-in-Err-clause-err c = λ t q.
    let new = (c.get_mut.follows.lender c.add.new.self).entries in
    holds-kept c.args.topic.now c.add.new.self (entries_of c.self.inside.by_topic.entries) (entries_of new)
    (λ t. lookup-updated c.args.topic.now t c.self.inside.by_topic (c.get_mut.follows.lender c.add.new.self) (Some c.add.new.self)
    ((c.get_mut.follows.holds c.add.new.self).3 (ap is_some (sym c.in-Some.ensures.value))))
    (c.in-Err.ensures.err ∙ sym (holders_of-found c.args.topic.now c.self.inside.by_topic (Some c.in-Some.peers.now) c.in-Some.ensures.value)) t q
    ∙ ap (λ held. holds held t q) c.self.view_is
