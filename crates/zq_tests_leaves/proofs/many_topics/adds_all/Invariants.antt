use Rattle.std.proofs.Common.{◌≡◌, true, is_some, nat_eq}
use Rattle.std.specs.Map.{lookup}
use Rattle.zq_tests_leaves.proofs.many_topics.adds_all.Given as goal

abbrev pub invariant-numbers : goal.invariant-numbers
invariant-numbers l = is_some (lookup (nat_eq 0) l.topics) ≡ true
