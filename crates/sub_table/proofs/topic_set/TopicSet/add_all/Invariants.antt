use Rattle.std.proofs.Common.{◌≡◌, ℕ, List, ◌||◌, map}
use Rattle.std.specs.Map.Iter.{deref}
use Rattle.spec_pattern.specs.Topics.{is_among}
use Rattle.sub_table.specs.View.{topics_in}
use Rattle.sub_table.proofs.topic_set.TopicSet.add_all.Given as goal

-- the topics so far were added
abbrev pub invariant-topics : goal.invariant-topics
invariant-topics l = (t : List ℕ) → is_among l.self t ≡ (is_among l.fn.self t || is_among (topics_in (map deref l.yielded)) t)
