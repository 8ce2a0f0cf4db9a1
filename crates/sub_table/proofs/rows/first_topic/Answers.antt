use Rattle.std.proofs.Common.{ap, sym, ◌∙◌, not, ◌&&◌, Some, nat_eq}
use Rattle.std.specs.Map.{set_value}
use Rattle.std.specs.Option.{is_some}
use Rattle.std.specs.Str.{bytes_eq}
use Rattle.spec_pattern.specs.Topics.{is_among, has_topic}
use Rattle.sub_table.proofs.RowLemmas.{same_peer, topics_of-found, row-found, has_topic-less, set_value-found}
use Rattle.sub_table.proofs.rows.first_topic.Goals as goal

pub returns-in-Some-take_first-clause-members : goal.returns-in-Some-take_first-clause-members
returns-in-Some-take_first-clause-members c = λ q t.
    ap (λ es. has_topic nat_eq es q t) ((c.get_mut.follows.holds c.take_first.new.self).0 ∙ ap (λ test. set_value test c.args.peers.now.entries c.take_first.new.self) (same_peer c.args.peer))
    ∙ has_topic-less c.args.peer c.in-Some-take_first.topic.items c.take_first.new.self c.args.peers.now.entries
    (ap is_some (row-found c.args.peer c.args.peers.now.entries (Some c.in-Some.topics.now) c.in-Some.ensures.value))
    (λ t. c.in-Some-take_first.ensures.members t ∙ ap (λ topics. not (bytes_eq c.in-Some-take_first.topic.items t) && is_among topics t)
    (sym (topics_of-found c.args.peer c.args.peers.now.entries (Some c.in-Some.topics.now) c.in-Some.ensures.value))) q t

pub returns-in-None-take_first-clause-first : goal.returns-in-None-take_first-clause-first
returns-in-None-take_first-clause-first c = (
  topics_of-found c.args.peer c.args.peers.now.entries (Some c.in-Some.topics.now) c.in-Some.ensures.value ∙ c.in-None-take_first.ensures.first.0,
  (c.get_mut.follows.holds c.take_first.new.self).0
      ∙ ap (λ test. set_value test c.args.peers.now.entries c.take_first.new.self) (same_peer c.args.peer)
      ∙ ap (set_value (nat_eq c.args.peer) c.args.peers.now.entries) (c.in-None-take_first.ensures.first.1 ∙ sym c.in-None-take_first.ensures.first.0)
      ∙ set_value-found (nat_eq c.args.peer) c.args.peers.now.entries c.in-Some.topics.now (row-found c.args.peer c.args.peers.now.entries (Some c.in-Some.topics.now) c.in-Some.ensures.value),
)
