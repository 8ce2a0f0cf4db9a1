use Rattle.std.proofs.Common.{◌≡◌, length, nat_eq}
use Rattle.spec_pattern.specs.Topics.{topics_of, topics_gone}
use Rattle.sub_table.specs.Tables.{ChangesOnly}
use Rattle.sub_table.proofs.topics.Topics.next_gone.Given as goal

-- only topics that others have were taken out
abbrev pub invariant-topics : goal.invariant-topics
invariant-topics l = record {
  gone : topics_gone nat_eq l.self l.peer ≡ topics_gone nat_eq l.fn.self l.peer;
  only : ChangesOnly l.peer l.fn.self l.self;
}

abbrev pub decreases-topics : goal.decreases-topics
decreases-topics l = length (topics_of nat_eq l.self l.peer)
