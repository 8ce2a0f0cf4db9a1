use Rattle.std.proofs.Common.{◌≡◌, All, refl, sym, ap, subst, ◌∙◌, true, false, nat_eq}
use Rattle.std.specs.Map.{keys_of, remove_entry}
use Rattle.spec_pattern.specs.Topics.{others_have, topics_of, without_peer}
use Rattle.sub_table.proofs.RowLemmas.{same_peer}
use Rattle.sub_table.proofs.TieLemmas.{AreTied-rows}
use Rattle.sub_table.proofs.GoneLemmas.{ChangesOnly-none, ChangesOnly-then, topics_gone-shared, topics_gone-alone, topics_gone-none, without_peer-only, has_topic-gone, lookup-gone, others-sorted}
use Rattle.sub_table.proofs.topics.Topics.next_gone.Goals as goal

pub topics-init : goal.topics-init
topics-init c = record { gone = refl; only = ChangesOnly-none c.args.peer c.args.self.now }

pub topics-preserved : goal.topics-preserved
topics-preserved c =
    let shared : others_have nat_eq c.take_first.new.self c.args.peer c.in-Some.topic.items ≡ true =
    ap (others_have nat_eq c.take_first.new.self c.args.peer) (sym c.as_slice.ensures.value) ∙ sym c.others_have.ensures ∙ c.if-not-others_have.false in
    record {
      gone = topics_gone-shared c.args.peer c.in-Some.topic.items c.topics.self c.take_first.new.self c.in-Some.ensures shared ∙ c.topics.invariant.gone;
      only = ChangesOnly-then c.args.peer c.args.self.now c.topics.self c.take_first.new.self c.topics.invariant.only c.in-Some.ensures.only;
    }

pub returns-then-not-others_have : goal.returns-then-not-others_have
returns-then-not-others_have c =
    let alone : others_have nat_eq c.take_first.new.self c.args.peer c.in-Some.topic.items ≡ false =
    ap (others_have nat_eq c.take_first.new.self c.args.peer) (sym c.as_slice.ensures.value) ∙ sym c.others_have.ensures ∙ c.if-not-others_have.true in
    record {
      gone = sym c.topics.invariant.gone ∙ topics_gone-alone c.args.peer c.in-Some.topic.items c.topics.self c.take_first.new.self c.in-Some.ensures alone;
      only = ChangesOnly-then c.args.peer c.args.self.now c.topics.self c.take_first.new.self c.topics.invariant.only c.in-Some.ensures.only;
    }

pub invariant_of-self : goal.invariant_of-self
invariant_of-self c =
    AreTied-rows c.self.inside.peers.entries c.remove.new.self.entries c.self.inside.holders c.remove.ensures.ordered c.self.invariant
    (has_topic-gone c.args.peer c.self.inside.peers.entries c.remove.new.self.entries
    (ap (λ subs. topics_of nat_eq subs c.args.peer) (c.self.view_is ∙ c.in_default.ensures.1) ∙ c.in_default.ensures.0)
    (λ q. lookup-gone c.args.peer q c.self.inside.peers.entries c.remove.new.self.entries (c.remove.ensures.updates.0 q)))

pub returns : goal.returns
returns c = (
  sym c.topics.invariant.gone ∙ topics_gone-none c.args.peer c.topics.self c.in_default.ensures.0,
  c.remove.ensures.entries ∙ ap (λ test. remove_entry test c.self.inside.peers.entries) (same_peer c.args.peer)
      ∙ ap (without_peer nat_eq c.args.peer) (c.self.view_is ∙ c.in_default.ensures.1)
      ∙ without_peer-only c.args.peer c.args.self.now c.topics.self c.topics.invariant.only,
  subst (λ es. All (λ p. nat_eq c.args.peer p ≡ false) (keys_of es))
      (sym (c.remove.ensures.entries ∙ ap (λ test. remove_entry test c.self.inside.peers.entries) (same_peer c.args.peer)))
      (others-sorted c.args.peer c.self.inside.peers.entries c.self.invariant.order),
)
