use Rattle.std.proofs.Common.{ap, sym, subst, ◌∙◌, ◌<◌, nat_eq}
use Rattle.std.specs.BTreeMap.{insert_entry}
use Rattle.std.specs.List.{All}
use Rattle.std.specs.Map.{keys_of}
use Rattle.std.specs.Ordering.{nat_cmp}
use Rattle.spec_pattern.specs.Topics.{with_peer, has_topic, is_among}
use Rattle.sub_table.proofs.RowLemmas.{insert_entry-last, topics_of-joined}
use Rattle.sub_table.proofs.TieLemmas.{AreTied-rows}
use Rattle.sub_table.proofs.topics.Topics.join.Goals as goal

pub invariant_of-self-2 : goal.invariant_of-self-2
invariant_of-self-2 c =
    AreTied-rows c.self.inside.peers.entries c.insert.new.self.entries c.self.inside.holders c.in_ok-insert.ensures.ordered c.self.invariant
    (λ q t. ap (λ subs. has_topic nat_eq subs q t)
    (c.in_ok-insert.ensures.entries ∙ ap (insert_entry nat_cmp c.self.inside.peers.entries c.args.peer) c.new.ensures
    ∙ insert_entry-last c.args.peer _ c.self.inside.peers.entries (subst (λ subs. All (λ k. k < c.args.peer) (keys_of subs)) (sym c.self.view_is) c.requires))
    ∙ ap (λ topics. is_among topics t) (topics_of-joined c.args.peer q c.self.inside.peers.entries))

pub returns-clause-ok : goal.returns-clause-ok
returns-clause-ok c =
    c.in_ok-insert.ensures.entries ∙ ap (insert_entry nat_cmp c.self.inside.peers.entries c.args.peer) c.new.ensures
    ∙ insert_entry-last c.args.peer _ c.self.inside.peers.entries (subst (λ subs. All (λ k. k < c.args.peer) (keys_of subs)) (sym c.self.view_is) c.requires)
    ∙ ap (with_peer c.args.peer) c.self.view_is
