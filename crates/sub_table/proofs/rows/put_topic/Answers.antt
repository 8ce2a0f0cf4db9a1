use Rattle.std.proofs.Common.{ap, sym, ◌∙◌, ◌||◌, Some, nat_eq}
use Rattle.std.specs.Map.{set_value}
use Rattle.std.specs.Str.{bytes_eq}
use Rattle.spec_pattern.specs.Topics.{is_among, has_topic}
use Rattle.sub_table.proofs.RowLemmas.{same_peer, topics_of-found, row-found, has_topic-more, set_value-found}
use Rattle.sub_table.proofs.rows.put_topic.Goals as goal

pub returns-in-Ok-clause-members : goal.returns-in-Ok-clause-members
returns-in-Ok-clause-members c = λ q t.
    ap (λ es. has_topic nat_eq es q t) ((c.get_mut.follows.holds c.add.new.self).0 ∙ ap (λ test. set_value test c.args.peers.now.entries c.add.new.self) (same_peer c.args.peer))
    ∙ has_topic-more c.args.peer c.args.topic.now c.add.new.self c.args.peers.now.entries c.requires
    (λ t. c.in-Ok.ensures.members t ∙ ap (λ topics. bytes_eq c.args.topic.now t || is_among topics t)
    (sym (topics_of-found c.args.peer c.args.peers.now.entries (Some c.in-Some.topics.now) c.in-Some.ensures.value))) q t

pub returns-in-Err-clause-err : goal.returns-in-Err-clause-err
returns-in-Err-clause-err c =
    (c.get_mut.follows.holds c.add.new.self).0
    ∙ ap (λ test. set_value test c.args.peers.now.entries c.add.new.self) (same_peer c.args.peer)
    ∙ ap (set_value (nat_eq c.args.peer) c.args.peers.now.entries) c.in-Err.ensures.err
    ∙ set_value-found (nat_eq c.args.peer) c.args.peers.now.entries c.in-Some.topics.now (row-found c.args.peer c.args.peers.now.entries (Some c.in-Some.topics.now) c.in-Some.ensures.value)
