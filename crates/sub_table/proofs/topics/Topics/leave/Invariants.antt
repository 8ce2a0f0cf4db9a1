use Rattle.std.proofs.Common.{◌≡◌, length, nat_eq}
use Rattle.spec_pattern.specs.Topics.{without_peer, topics_gone}
use Rattle.sub_table.proofs.topics.Topics.leave.Given as goal

-- all other peers are as they were
abbrev pub invariant-topics : goal.invariant-topics
invariant-topics l = without_peer nat_eq l.peer l.self ≡ without_peer nat_eq l.peer l.fn.self

abbrev pub decreases-topics : goal.decreases-topics
decreases-topics l = length (topics_gone nat_eq l.self l.peer)
