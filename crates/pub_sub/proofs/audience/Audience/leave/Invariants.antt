use Rattle.std.proofs.Common.{◌≡◌, ◌+◌, ◌≤◌, ◌++◌, All, length, nat_eq}
use Rattle.spec_pattern.specs.Topics.{without_peer, topics_gone, IsTopic}
use Rattle.pub_sub.specs.Publishers.{cancels_of}
use Rattle.pub_sub.proofs.audience.Audience.leave.Given as goal

-- the user is told of the topics that are gone, and will be of those that go
abbrev pub invariant-topics : goal.invariant-topics
invariant-topics l = record {
  others : without_peer nat_eq l.place l.self.topics ≡ without_peer nat_eq l.place l.fn.self.topics;
  told : l.self.inbox.notices ++ cancels_of l.pair (topics_gone nat_eq l.self.topics l.place)
      ≡ l.fn.self.inbox.notices ++ cancels_of l.pair (topics_gone nat_eq l.fn.self.topics l.place);
  room : l.rest + length (topics_gone nat_eq l.self.topics l.place) ≤ l.self.inbox.spare;
  short : All IsTopic (topics_gone nat_eq l.self.topics l.place);
  verbose_is : l.self.verbose ≡ l.fn.self.verbose;
  tells_is : l.self.tells ≡ l.fn.self.tells;
}

abbrev pub decreases-topics : goal.decreases-topics
decreases-topics l = length (topics_gone nat_eq l.self.topics l.place)
