use Rattle.std.proofs.Common.{ap, sym, subst, not, ◌&&◌, ◌∙◌, Some, None, nat_eq}
use Rattle.std.specs.Option.{is_some}
use Rattle.std.specs.Str.{bytes_eq}
use Rattle.sub_table.specs.View.{Loses, entries_of, is_peer, holders_of}
use Rattle.sub_table.proofs.ViewLemmas.{lookup-entries_of, set_value-entries_of}
use Rattle.sub_table.proofs.LengthLemmas.{AreLengths-set}
use Rattle.sub_table.proofs.HoldLemmas.{lookup-updated, holders_of-updated, holders_of-found, Loses-set, Loses-none}
use Rattle.sub_table.proofs.holders.Holders.leaves_none.Goals as goal

pub returns-in-Some-clause-loses : goal.returns-in-Some-clause-loses
returns-in-Some-clause-loses c =
    let new = (c.get_mut.follows.lender c.remove.new.self).entries in
    subst (λ held. Loses c.args.topic.now c.args.peer held (entries_of new)) c.self.view_is
    (Loses-set c.args.topic.now c.args.peer (Some c.remove.new.self) (entries_of c.self.inside.by_topic.entries) (entries_of new)
    (λ t. lookup-updated c.args.topic.now t c.self.inside.by_topic (c.get_mut.follows.lender c.remove.new.self) (Some c.remove.new.self)
    ((c.get_mut.follows.holds c.remove.new.self).3 (ap is_some (sym c.in-Some.ensures.value))))
    (λ q. c.remove.ensures q
    ∙ ap (λ peers. not (nat_eq c.args.peer q) && is_peer peers q) (sym (holders_of-found c.args.topic.now c.self.inside.by_topic (Some c.in-Some.peers.now) c.in-Some.ensures.value))))

pub returns-in-Some-clause-none : goal.returns-in-Some-clause-none
returns-in-Some-clause-none c = λ empty.
    let new = c.get_mut.follows.lender c.remove.new.self in
    let updates = (c.get_mut.follows.holds c.remove.new.self).3 (ap is_some (sym c.in-Some.ensures.value)) in (
      holders_of-updated c.args.topic.now c.self.inside.by_topic new (Some c.remove.new.self) updates ∙ c.is_empty.ensures.0 empty,
      ap is_some (sym (lookup-entries_of c.args.topic.now new.entries) ∙ updates.1),
    )

pub invariant_of-self : goal.invariant_of-self
invariant_of-self c =
    AreLengths-set (bytes_eq c.args.topic.now) c.remove.new.self (entries_of c.self.inside.by_topic.entries) _ c.self.inside.lengths
    (ap entries_of (c.get_mut.follows.holds c.remove.new.self).0 ∙ set_value-entries_of c.args.topic.now c.self.inside.by_topic.entries c.remove.new.self) c.self.invariant

pub returns-in-None-clause-loses : goal.returns-in-None-clause-loses
returns-in-None-clause-loses c =
    subst (λ new. Loses c.args.topic.now c.args.peer c.args.self.now new) (sym (ap (λ m. entries_of m.entries) c.get_mut.follows.holds-at-none ∙ c.self.view_is))
    (Loses-none c.args.topic.now c.args.peer c.args.self.now
    (ap (λ held. holders_of held c.args.topic.now) (sym c.self.view_is) ∙ holders_of-found c.args.topic.now c.self.inside.by_topic None c.in-None.ensures.value))
