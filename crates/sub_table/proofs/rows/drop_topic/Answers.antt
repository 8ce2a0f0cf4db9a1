use Rattle.std.proofs.Common.{ap, sym, ◌∙◌, not, ◌&&◌, Some, None, nat_eq}
use Rattle.std.specs.Map.{set_value}
use Rattle.std.specs.Option.{is_some}
use Rattle.std.specs.Str.{bytes_eq}
use Rattle.spec_pattern.specs.Topics.{is_among, has_topic, topics_of, without_topic}
use Rattle.sub_table.proofs.ViewLemmas.{set_value-absent}
use Rattle.sub_table.proofs.RowLemmas.{same_peer, topics_of-found, row-found, has_topic-less, has_topic-absent}
use Rattle.sub_table.proofs.rows.drop_topic.Goals as goal

pub returns-in-Some-clause-members : goal.returns-in-Some-clause-members
returns-in-Some-clause-members c = λ q t.
    ap (λ es. has_topic nat_eq es q t) ((c.get_mut.follows.holds c.remove.new.self).0 ∙ ap (λ test. set_value test c.args.peers.now.entries c.remove.new.self) (same_peer c.args.peer))
    ∙ has_topic-less c.args.peer c.args.topic.now c.remove.new.self c.args.peers.now.entries
    (ap is_some (row-found c.args.peer c.args.peers.now.entries (Some c.in-Some.topics.now) c.in-Some.ensures.value))
    (λ t. c.remove.ensures.members t ∙ ap (λ topics. not (bytes_eq c.args.topic.now t) && is_among topics t)
    (sym (topics_of-found c.args.peer c.args.peers.now.entries (Some c.in-Some.topics.now) c.in-Some.ensures.value))) q t

pub returns-in-None-clause-value : goal.returns-in-None-clause-value
returns-in-None-clause-value c =
    ap (λ m. m.entries) c.get_mut.follows.holds-at-none
    ∙ sym (set_value-absent (nat_eq c.args.peer) c.args.peers.now.entries (without_topic c.args.topic.now (topics_of nat_eq c.args.peers.now.entries c.args.peer))
    (sym (row-found c.args.peer c.args.peers.now.entries None c.in-None.ensures.value)))

pub returns-in-None-clause-members : goal.returns-in-None-clause-members
returns-in-None-clause-members c = λ q t.
    ap (λ m. has_topic nat_eq m.entries q t) c.get_mut.follows.holds-at-none
    ∙ has_topic-absent c.args.peer c.args.topic.now c.args.peers.now.entries (topics_of-found c.args.peer c.args.peers.now.entries None c.in-None.ensures.value) q t
