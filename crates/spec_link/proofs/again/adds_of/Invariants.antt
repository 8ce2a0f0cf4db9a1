use Rattle.std.proofs.Common.{◌≡◌, map}
use Rattle.std.specs.Map.Iter.{deref}
use Rattle.spec_link.specs.TopicsFirst.{topics_said}
use Rattle.sub_table.specs.View.{topics_in}
use Rattle.spec_link.proofs.again.adds_of.Given as goal

-- the topics so far are said
abbrev pub invariant-topics : goal.invariant-topics
invariant-topics l = l.messages.items ≡ topics_said (topics_in (map deref l.yielded))
